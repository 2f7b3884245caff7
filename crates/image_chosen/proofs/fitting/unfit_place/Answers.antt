use Rattle.std.proofs.Common.{ℕ, List, length, ap, sym, subst, ◌∙◌, arith}
use Rattle.std.specs.Prelude.{slice_index}
use Rattle.base_types.specs.declared.records.Rec.{Rec}
use Rattle.image_chosen_facts.specs.image_meaning.Parts.{chosen_by}
use Rattle.image_chosen_facts.specs.image_fits.Chosen.{parts_of}
use Rattle.image_chosen_facts.specs.image_fits.Fits.{IsFirstUnfit}
use Rattle.image_chosen_facts.specs.Choosing.{IsChosenSlot}
use Rattle.image_chosen_facts.proofs.Slots.{slot_few}
use Rattle.image_chosen_facts.proofs.Unfit.{bad_at, told_chosen, unfit_at}
use Rattle.image_chosen.proofs.Verdicts.{if_none, if_some}
use Rattle.image_chosen.proofs.fitting.unfit_place.Goals as goal

pub returns-in_default-clause-none : goal.returns-in_default-clause-none
returns-in_default-clause-none c = if_none c.in_ok-x.field-0 _ c.in_default.is (c.in_ok-x.ensures.none c.args.log.now.recs.items c.requires.chosen)

pub body_of-requires : goal.body_of-requires
body_of-requires c =
    let low = c.in-Some-chosen_slot.ensures.some in
    let within = slot_few c.deref.result.now (slice_index c.args.cut.now.0) c.in-Some.x c.in-Some-chosen_slot.slot low in
    let same = ap length c.deref.ensures.value in
    let few = c.requires.few in
    omega (arith, within, same, few)

pub returns-in-Some-chosen_slot-clause-some : goal.returns-in-Some-chosen_slot-clause-some
returns-in-Some-chosen_slot-clause-some c = λ image spelt counted.
    let recs : List Rec = c.args.log.now.recs.items in
    let p : ℕ → ℕ = slice_index c.args.cut.now.0 in
    let s : IsChosenSlot p recs c.in-Some.x c.in-Some-chosen_slot.slot = subst (λ (rs : List Rec). IsChosenSlot p rs c.in-Some.x c.in-Some-chosen_slot.slot) c.deref.ensures.value c.in-Some-chosen_slot.ensures.some in
    let u : IsFirstUnfit c.args.log.now.blocks recs (parts_of c.args.entities.now) c.in-Some.x = if_some c.in_ok-x.field-0 c.in-Some.x _ c.in-Some.is (c.in_ok-x.ensures.found recs c.requires.chosen) in
    unfit_at image c.args.log.now.blocks recs c.args.log.now.area (parts_of c.args.entities.now) p c.in-Some.x c.in-Some-chosen_slot.slot (record { block = c.body_of.result; place = 0 }) c.requires.cut s spelt counted u
    (ap (λ (n : ℕ). bad_at n 0) c.body_of.ensures.at)

pub returns-in-None-clause-none : goal.returns-in-None-clause-none
returns-in-None-clause-none c =
    let recs : List Rec = c.args.log.now.recs.items in
    let p : ℕ → ℕ = slice_index c.args.cut.now.0 in
    let u : IsFirstUnfit c.args.log.now.blocks recs (parts_of c.args.entities.now) c.in-Some.x = if_some c.in_ok-x.field-0 c.in-Some.x _ c.in-Some.is (c.in_ok-x.ensures.found recs c.requires.chosen) in
    absurd (told_chosen c.args.log.now.blocks recs c.args.entities.now p c.in-Some.x c.requires.cut c.requires.chosen u (ap (λ (rs : List Rec). chosen_by p rs c.in-Some.x) (sym c.deref.ensures.value) ∙ c.in-None.ensures.none))
