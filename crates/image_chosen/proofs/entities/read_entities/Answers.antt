use Rattle.std.proofs.Common.{◌≡◌, ◌+◌, ◌++◌, ◌∷◌, [], ℕ, List, Option, length, ap, sym, subst, ◌∙◌, arith}
use Rattle.std.proofs.lemmas.List.{length-append}
use Rattle.edge_disk.specs.Image.{Image}
use Rattle.base_types.specs.declared.records.Rec.{Rec}
use Rattle.image_chosen_facts.specs.image_meaning.Parts.{chosen}
use Rattle.image_chosen_facts.proofs.log_facts_lemmas.ReadSoFar.{ReadsOnly-trans}
use Rattle.image_chosen_facts.specs.image_fits.Chosen.{record_in}
use Rattle.image_chosen_facts.specs.image_fits.Fits.{AreChosen}
use Rattle.image_chosen_facts.specs.image_fits.declared.chosen.ChosenEntity.{ChosenEntity}
use Rattle.image_chosen_facts.specs.Choosing.{IsBadEntity}
use Rattle.image_chosen_facts.proofs.Reading.{ChosenTo, FormedTo, IsFormedEntity, IsSpeltEntity, SpeltTo, all_chosen, all_formed, all_spelt, first_bad_blob, with_one}
use Rattle.image_chosen.proofs.Verdicts.{handed_on}
use Rattle.image_chosen.proofs.entities.read_entities.Goals as goal

pub returns-in_err-entity-clause-foreign : goal.returns-in_err-entity-clause-foreign
returns-in_err-entity-clause-foreign g c t bad is =
    let recs : List Rec = c.args.log.now.recs.items in
    let so_far = c.loop-number.invariant in
    let b : IsBadEntity (g.D.Disk.reading c.loop-number.disk) recs c.args.log.now.area c.of.result bad = c.in_err-entity.ensures.foreign t bad (handed_on c.from_residual.result c.in_err-entity.field-0.0 bad c.from_residual.ensures.1 is) in
    first_bad_blob (g.D.Disk.reading c.args.disk.now) recs c.args.log.now.area c.loop-number.entities.items c.loop-number.number c.of.result bad c.of.ensures so_far.chosen (so_far.spelt t)
    (subst (λ (i : Image). IsBadEntity i recs c.args.log.now.area c.of.result bad) (so_far.same.same_reading t) b)

pub loop-number-preserved : goal.loop-number-preserved
loop-number-preserved g c =
    let disk = g.met.D.Disk in
    let recs : List Rec = c.args.log.now.recs.items in
    let so_far = c.loop-number.invariant in
    let es : List (Option ChosenEntity) = c.loop-number.entities.items in
    let n : ℕ = c.loop-number.number in
    let o : Option ChosenEntity = c.in_ok-entity.entity in
    let items : c.push.new.self.items ≡ es ++ o ∷ [] = c.in_ok-push.ensures.items in
    let here : chosen recs n ≡ record_in o = subst (λ (x : ℕ). chosen recs x ≡ record_in o) c.of.ensures c.in_ok-entity.ensures.chosen in
    record {
      long = (let was = so_far.long in let b = ap length items in let e = length-append es (o ∷ []) in omega (arith, was, b, e));
      chosen = subst (λ (l : List (Option ChosenEntity)). ChosenTo recs l (n + 1)) (sym items) (with_one es o (λ x p. chosen recs x ≡ record_in p) n so_far.long so_far.chosen here);
      formed = subst (λ (l : List (Option ChosenEntity)). FormedTo l (n + 1)) (sym items)
          (with_one es o IsFormedEntity n so_far.long so_far.formed (subst (λ (x : ℕ). IsFormedEntity x o) c.of.ensures c.in_ok-entity.ensures.formed));
      spelt = λ t.
          let image : Image = g.D.Disk.reading c.args.disk.now in
          let read : IsSpeltEntity (g.D.Disk.reading c.loop-number.disk) c.of.result o = c.in_ok-entity.ensures.spelt t in
          let spelt : IsSpeltEntity image n o = subst (λ (i : Image). IsSpeltEntity i n o) (so_far.same.same_reading t) (subst (λ (x : ℕ). IsSpeltEntity (g.D.Disk.reading c.loop-number.disk) x o) c.of.ensures read) in
          subst (λ (l : List (Option ChosenEntity)). SpeltTo image l (n + 1)) (sym items) (with_one es o (IsSpeltEntity image) n so_far.long (so_far.spelt t) spelt);
      later = (let before = so_far.later in let now = c.read_entity.ensures.same.later in omega (arith, before, now));
      same = ReadsOnly-trans _ _ _ (λ t d s b. disk.counts_now d s b t) so_far.same c.read_entity.ensures.same;
    }

pub returns-clause-chosen : goal.returns-clause-chosen
returns-clause-chosen g c =
    let so_far = c.loop-number.invariant in
    let last : c.loop-number.number ≡ 64 = (let a = c.loop-number-test.false in let b = c.loop-number.auto.number-end in omega (arith, a, b)) in
    all_chosen c.args.log.now.blocks c.args.log.now.recs.items c.loop-number.entities.items c.requires.known.in_range (so_far.long ∙ last)
    (subst (λ (n : ℕ). ChosenTo c.args.log.now.recs.items c.loop-number.entities.items n) last so_far.chosen)

pub returns-clause-formed : goal.returns-clause-formed
returns-clause-formed g c =
    let so_far = c.loop-number.invariant in
    let last : c.loop-number.number ≡ 64 = (let a = c.loop-number-test.false in let b = c.loop-number.auto.number-end in omega (arith, a, b)) in
    all_formed c.loop-number.entities.items (so_far.long ∙ last) (subst (FormedTo c.loop-number.entities.items) last so_far.formed)

pub returns-clause-spelt : goal.returns-clause-spelt
returns-clause-spelt g c t =
    let so_far = c.loop-number.invariant in
    let recs : List Rec = c.args.log.now.recs.items in
    let es : List (Option ChosenEntity) = c.loop-number.entities.items in
    let last : c.loop-number.number ≡ 64 = (let a = c.loop-number-test.false in let b = c.loop-number.auto.number-end in omega (arith, a, b)) in
    let all : AreChosen recs es = all_chosen c.args.log.now.blocks recs es c.requires.known.in_range (so_far.long ∙ last) (subst (λ (n : ℕ). ChosenTo recs es n) last so_far.chosen) in
    all_spelt (g.D.Disk.reading c.args.disk.now) recs es all (so_far.long ∙ last) (subst (λ (n : ℕ). SpeltTo (g.D.Disk.reading c.args.disk.now) es n) last (so_far.spelt t))
