use Rattle.std.proofs.Common.{◌≡◌, ◌≤◌, ◌<◌, ◌+◌, ◌++◌, ◌∷◌, [], ℕ, true, false, inl, inr, List, length, Some, None, sym, ap, subst, ◌∙◌, arith}
use Rattle.std.proofs.lemmas.Bool.{cases_lt}
use Rattle.std.proofs.lemmas.List.{length-append}
use Rattle.std.specs.List.{AllPairs}
use Rattle.edge_disk.specs.Image.{Image}
use Rattle.base_types.specs.declared.records.Rec.{Rec}
use Rattle.image_blocks.specs.image_facts.Bodies.{record_in}
use Rattle.image_blocks.specs.image_facts.Checks.{body_fault, count_in}
use Rattle.image_blocks.specs.Checks.{body_in, log_fault}
use Rattle.image_blocks.specs.Layout.{body_at, slot_gate_at}
use Rattle.image_blocks.specs.image_facts.Layout.{is_open, slot_count}
use Rattle.image_blocks.specs.image_facts.Logs.{IsInRange}
use Rattle.log_facts.specs.Logs.{AreInRange, IsOlder}
use Rattle.log_facts.proofs.Ascending.{ascending_more}
use Rattle.log_facts.proofs.InRange.{in_range_more, read_in_range}
use Rattle.log_facts.proofs.ReadSoFar.{ReadsOnly-trans}
use Rattle.log_facts.proofs.Reached.{fault_moved, log_bad, log_read, reads, reads_more, read_at}
use Rattle.log_reading.proofs.Verdicts.{bad_at, match_none, match_some, told_bad}
use Rattle.log_reading.proofs.slots.records_of.Goals as goal

pub returns-in-None-clause-same : goal.returns-in-None-clause-same
returns-in-None-clause-same g c = let disk = g.met.D.Disk in ReadsOnly-trans _ _ _ (λ t d s b. disk.counts_now d s b t) c.loop-slot.invariant.same c.slot_of.ensures.same

pub returns-in_err-push-in-Ok-clause-same : goal.returns-in_err-push-in-Ok-clause-same
returns-in_err-push-in-Ok-clause-same g c = let disk = g.met.D.Disk in ReadsOnly-trans _ _ _ (λ t d s b. disk.counts_now d s b t) c.loop-slot.invariant.same c.slot_of.ensures.same

pub returns-in-Err-clause-same : goal.returns-in-Err-clause-same
returns-in-Err-clause-same g c = let disk = g.met.D.Disk in ReadsOnly-trans _ _ _ (λ t d s b. disk.counts_now d s b t) c.loop-slot.invariant.same c.slot_of.ensures.same

pub returns-in-None-clause-recs : goal.returns-in-None-clause-recs
returns-in-None-clause-recs g c t counted =
    let so_far = c.loop-slot.invariant in
    let image : Image = g.D.Disk.reading c.args.disk.now in
    let still = so_far.same.same_reading t in
    let closed : is_open image (slot_gate_at c.args.area c.loop-slot.slot) ≡ false =
    ap (λ (i : Image). is_open i (slot_gate_at c.args.area c.loop-slot.slot)) (sym still) ∙ match_none c.in_ok-body.field-0 _ _ c.in-None.is (c.in_ok-body.ensures.slot t) in
    let all = log_read image c.args.area c.loop-slot.slot (let a = c.loop-slot-test.true in omega (arith, a)) (so_far.gates t) (λ low. closed) (so_far.good t counted) in
    (all.0, so_far.recs_are t ∙ all.1)

pub returns-clause-recs : goal.returns-clause-recs
returns-clause-recs g c t counted =
    let so_far = c.loop-slot.invariant in
    let last : c.loop-slot.slot ≡ slot_count = (let a = c.loop-slot-test.false in let b = c.loop-slot.auto.slot-end in omega (arith, a, b)) in
    let all = log_read (g.D.Disk.reading c.args.disk.now) c.args.area c.loop-slot.slot (omega (arith, last)) (so_far.gates t) (λ low. absurd (omega (arith, low, last))) (so_far.good t counted) in
    (all.0, so_far.recs_are t ∙ all.1)

pub returns-in-Err-clause-foreign : goal.returns-in-Err-clause-foreign
returns-in-Err-clause-foreign g c t counted bad is =
    let so_far = c.loop-slot.invariant in
    let image : Image = g.D.Disk.reading c.args.disk.now in
    let slot : ℕ = c.loop-slot.slot in
    let still = so_far.same.same_reading t in
    let here = match_some c.in_ok-body.field-0 c.in-Some.body _ _ c.in-Some.is (c.in_ok-body.ensures.slot t) in
    let gate : is_open image (slot_gate_at c.args.area slot) ≡ true = ap (λ (i : Image). is_open i (slot_gate_at c.args.area slot)) (sym still) ∙ here.0 in
    let body : c.in-Some.body ≡ body_in image c.args.area slot = here.1 ∙ ap (λ (i : Image). body_in i c.args.area slot) still in
    let fault : body_fault (count_in image) (reads image c.args.area slot) (body_in image c.args.area slot) ≡ Some c.in-Err.place =
    fault_moved c.args.count (count_in image) c.deref.result.now (reads image c.args.area slot) c.in-Some.body (body_in image c.args.area slot) (Some c.in-Err.place) counted (c.deref.ensures.value ∙ so_far.recs_are t) body c.in-Err.ensures.bad in
    log_bad image c.args.area slot c.in-Err.place c.loop-slot-test.true (so_far.gates t) gate (so_far.good t counted) fault
    ∙ (ap (λ (n : ℕ). Some (bad_at n c.in-Err.place)) (sym c.body_of-block.ensures.at) ∙ ap Some (told_bad (bad_at c.body_of-block.result c.in-Err.place) bad is))

pub loop-slot-preserved : goal.loop-slot-preserved
loop-slot-preserved g c =
    let so_far = c.loop-slot.invariant in
    let disk = g.met.D.Disk in
    let image : Image = g.D.Disk.reading c.args.disk.now in
    let slot : ℕ = c.loop-slot.slot in
    let items : c.push.new.self.items ≡ c.loop-slot.recs.items ++ c.in-Ok.rec ∷ [] = c.in_ok-push-in-Ok.ensures.items in
    let here : IsInRange c.args.count c.loop-slot.recs.items c.in-Ok.rec =
    subst (λ (l : List Rec). IsInRange c.args.count l c.in-Ok.rec) c.deref.ensures.value (read_in_range c.args.count c.deref.result.now c.in-Some.body c.in-Ok.rec c.in-Ok.ensures.good c.in-Ok.ensures.read) in
    record {
      len = (let a = so_far.len in let b = ap length items in let e = length-append c.loop-slot.recs.items (c.in-Ok.rec ∷ []) in omega (arith, a, b, e));
      recs_are = λ t.
          let here = match_some c.in_ok-body.field-0 c.in-Some.body _ _ c.in-Some.is (c.in_ok-body.ensures.slot t) in
          let body : c.in-Some.body ≡ body_in image c.args.area slot = here.1 ∙ ap (λ (i : Image). body_in i c.args.area slot) (so_far.same.same_reading t) in
          let rec : c.in-Ok.rec ≡ read_at image c.args.area slot = c.in-Ok.ensures.read ∙ ap record_in body in
          items ∙ (ap (λ (l : List Rec). l ++ c.in-Ok.rec ∷ []) (so_far.recs_are t) ∙ (ap (λ (r : Rec). reads image c.args.area slot ++ r ∷ []) rec ∙ reads_more image c.args.area slot));
      gates = λ t j lt.
          let here = match_some c.in_ok-body.field-0 c.in-Some.body _ _ c.in-Some.is (c.in_ok-body.ensures.slot t) in
          let gate : is_open image (slot_gate_at c.args.area slot) ≡ true = ap (λ (i : Image). is_open i (slot_gate_at c.args.area slot)) (sym (so_far.same.same_reading t)) ∙ here.0 in
          elim (cases_lt j slot) as (λ _. is_open image (slot_gate_at c.args.area j) ≡ true) [
            | inl low ↦ so_far.gates t j low
            | inr high ↦ (let e : slot ≡ j = omega (arith, lt, high) in subst (λ (k : ℕ). is_open image (slot_gate_at c.args.area k) ≡ true) e gate)
          ];
      good = λ t counted j lt.
          let here = match_some c.in_ok-body.field-0 c.in-Some.body _ _ c.in-Some.is (c.in_ok-body.ensures.slot t) in
          let body : c.in-Some.body ≡ body_in image c.args.area slot = here.1 ∙ ap (λ (i : Image). body_in i c.args.area slot) (so_far.same.same_reading t) in
          let none : body_fault (count_in image) (reads image c.args.area slot) (body_in image c.args.area slot) ≡ None =
          fault_moved c.args.count (count_in image) c.deref.result.now (reads image c.args.area slot) c.in-Some.body (body_in image c.args.area slot) None counted (c.deref.ensures.value ∙ so_far.recs_are t) body c.in-Ok.ensures.good in
          elim (cases_lt j slot) as (λ _. body_fault (count_in image) (reads image c.args.area j) (body_in image c.args.area j) ≡ None) [
            | inl low ↦ so_far.good t counted j low
            | inr high ↦ (let e : slot ≡ j = omega (arith, lt, high) in subst (λ (k : ℕ). body_fault (count_in image) (reads image c.args.area k) (body_in image c.args.area k) ≡ None) e none)
          ];
      in_range = subst (AreInRange c.args.count) (sym items) (in_range_more c.args.count c.loop-slot.recs.items c.in-Ok.rec so_far.in_range here);
      ascending = subst (AllPairs IsOlder) (sym items) (ascending_more c.args.count c.loop-slot.recs.items c.in-Ok.rec so_far.ascending here);
      same = ReadsOnly-trans _ _ _ (λ t d s b. disk.counts_now d s b t) so_far.same c.slot_of.ensures.same;
    }
