use Rattle.std.proofs.Common.{ℕ, List, subst}
use Rattle.std.specs.Prelude.{slice_index}
use Rattle.base_types.specs.declared.records.Rec.{Rec}
use Rattle.image_chosen_facts.specs.image_meaning.Parts.{IsFormed, IsSpelt}
use Rattle.image_chosen_facts.specs.image_fits.Chosen.{part_of}
use Rattle.image_chosen_facts.specs.Choosing.{IsChosenSlot}
use Rattle.image_chosen_facts.proofs.Reading.{slot_bad, slot_entity}
use Rattle.image_chosen.proofs.Verdicts.{handed_on}
use Rattle.image_chosen.proofs.entities.read_entity.Goals as goal

pub returns-in_err-entity-clause-foreign : goal.returns-in_err-entity-clause-foreign
returns-in_err-entity-clause-foreign g c t bad is =
    let recs : List Rec = c.args.log.now.recs.items in
    let p : ℕ → ℕ = slice_index c.args.cut.now.0 in
    let s : IsChosenSlot p recs c.args.x c.in-Some.slot = subst (λ (rs : List Rec). IsChosenSlot p rs c.args.x c.in-Some.slot) c.deref.ensures.value c.in-Some.ensures.some in
    slot_bad recs p c.requires.cut c.args.x c.in-Some.slot s (g.D.Disk.reading c.args.disk.now) c.args.log.now.area bad
    (c.in_err-entity.ensures.foreign t bad (handed_on c.from_residual.result c.in_err-entity.field-0.0 bad c.from_residual.ensures.1 is))

pub returns-clause-formed : goal.returns-clause-formed
returns-clause-formed g c =
    let recs : List Rec = c.args.log.now.recs.items in
    let p : ℕ → ℕ = slice_index c.args.cut.now.0 in
    let s : IsChosenSlot p recs c.args.x c.in-Some.slot = subst (λ (rs : List Rec). IsChosenSlot p rs c.args.x c.in-Some.slot) c.deref.ensures.value c.in-Some.ensures.some in
    let rec : Rec = c.in_ok-entity.entity.rec in
    subst (λ (y : ℕ). IsFormed y (part_of c.in_ok-entity.entity.part)) (slot_entity recs p c.requires.cut c.args.x c.in-Some.slot s rec c.in_ok-entity.ensures.record) c.in_ok-entity.ensures.formed

pub returns-clause-spelt : goal.returns-clause-spelt
returns-clause-spelt g c t =
    let recs : List Rec = c.args.log.now.recs.items in
    let p : ℕ → ℕ = slice_index c.args.cut.now.0 in
    let s : IsChosenSlot p recs c.args.x c.in-Some.slot = subst (λ (rs : List Rec). IsChosenSlot p rs c.args.x c.in-Some.slot) c.deref.ensures.value c.in-Some.ensures.some in
    let rec : Rec = c.in_ok-entity.entity.rec in
    subst (λ (y : ℕ). IsSpelt (g.D.Disk.reading c.args.disk.now) y rec (part_of c.in_ok-entity.entity.part)) (slot_entity recs p c.requires.cut c.args.x c.in-Some.slot s rec c.in_ok-entity.ensures.record) (c.in_ok-entity.ensures.spelt t)
