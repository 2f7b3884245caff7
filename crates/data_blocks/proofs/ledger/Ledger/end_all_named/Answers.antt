use Rattle.std.proofs.Common.{◌≡◌, ℕ, ◌+◌, ◌-◌, ◌<◌, Bool, true, false, List, length, refl, sym, ap, subst, ◌∙◌, arith}
use Rattle.std.specs.Prelude.{slice_index, slice_index_or}
use Rattle.std.proofs.lemmas.List.{get_or_default}
use Rattle.data_blocks.specs.Ledger.{IsKept, is_unused, ledger_of}
use Rattle.data_blocks.specs.Pool.{Pool}
use Rattle.data_blocks.specs.declared.ledger.Ledger.TheInside.{Inside}
use Rattle.data_blocks.proofs.Holdings.{AreFreedFrom, counted_used, freed_more, freed_none, freed_same, last_unused, marked_used, none_free, not_freed}
use Rattle.data_blocks.proofs.ledger.Ledger.end_all_named.Goals as goal
use Rattle.data_blocks.proofs.ledger.Ledger.end_all_named.Goals.{else-not-index-via-then-not-index+else-not-is_named, else-not-index-via-else-not-index}

pub loop-block-init : goal.loop-block-init
loop-block-init c =
    let all = rw (← c.self.view_is) at c.requires in
    let kept : IsKept c.self.inside.pool c.self.inside.held.items c.self.inside.uses true = subst (λ (b : Bool). IsKept c.self.inside.pool c.self.inside.held.items c.self.inside.uses b) all c.self.invariant in
    let end = ap (λ (x : Inside). x.pool.end) c.self-inside.view_is in
    record {
      freed = freed_none c.self.inside.pool.first c.self.inside.pool.end _ c.self.inside.held.items c.self.inside.uses c.self.inside.pool refl refl (omega (arith, end)) (none_free c.self.inside.pool c.self.inside.held.items c.self.inside.uses kept);
      held_same = refl;
      uses_same = refl;
      above = λ le. omega (arith, le, end);
      none = λ lt. omega (arith, end);
    }

pub give_back-requires-clause-taken : goal.give_back-requires-clause-taken
give_back-requires-clause-taken c =
    let i : ℕ = c.loop-block.block - 1 in
    let so_far = c.loop-block.invariant in
    let end = ap (λ (x : Inside). x.pool.end) c.self-inside.view_is in
    let next : c.loop-block.block ≡ i + 1 = omega arith in
    let h = subst (λ (n : ℕ). AreFreedFrom c.self.inside.pool.first c.self.inside.pool.end c.self.inside.held.items c.self.inside.uses c.loop-block.self-inside.pool n) next so_far.freed in
    not_freed c.self.inside.pool.first c.self.inside.pool.end c.self.inside.held.items c.self.inside.uses c.loop-block.self-inside.pool i h (omega (arith, end))

pub loop-block-preserved-then-not-is_named : goal.loop-block-preserved-then-not-is_named
loop-block-preserved-then-not-is_named c =
    let i : ℕ = c.loop-block.block - 1 in
    let so_far = c.loop-block.invariant in
    let first = ap (λ (x : Inside). x.pool.first) c.self-inside.view_is in
    let end = ap (λ (x : Inside). x.pool.end) c.self-inside.view_is in
    let next : c.loop-block.block ≡ i + 1 = omega arith in
    let h = subst (λ (n : ℕ). AreFreedFrom c.self.inside.pool.first c.self.inside.pool.end c.self.inside.held.items c.self.inside.uses c.loop-block.self-inside.pool n) next so_far.freed in
    let within : i < length c.loop-block.self-inside.held.items = (let marks = c.self.invariant.marks in let same = ap length (ap (λ (v : _). v.items) so_far.held_same) in omega (arith, marks, same, end)) in
    let off : slice_index_or c.self.inside.held.items i false ≡ false =
    sym (ap (λ (v : _). slice_index_or v.items i false) so_far.held_same) ∙ (get_or_default c.loop-block.self-inside.held.items i false c.index.result.now within ∙ (sym c.index.ensures ∙ c.if-not-index.true)) in
    let unused : is_unused (ledger_of c.loop-block.self-inside.pool c.self.inside.held.items c.self.inside.uses false) i ≡ true =
    last_unused (slice_index_or c.self.inside.held.items i false) false c.is_named.result (slice_index c.self.inside.uses i) off refl
    (λ lt. c.is_named.ensures.1 (let same = ap (λ (us : List ℕ). slice_index us i) so_far.uses_same in omega (arith, lt, same))) c.if-not-is_named.true in
    record {
      freed = subst (λ (p : Pool). AreFreedFrom c.self.inside.pool.first c.self.inside.pool.end c.self.inside.held.items c.self.inside.uses p i) (sym c.give_back.ensures.value)
          (freed_more c.self.inside.pool.first c.self.inside.pool.end c.self.inside.held.items c.self.inside.uses c.loop-block.self-inside.pool i h (omega (arith, end)) unused);
      held_same = so_far.held_same;
      uses_same = so_far.uses_same;
      above = λ le. omega (arith, le, first, end);
      none = λ lt. absurd (omega (arith, lt, first, end));
    }

pub loop-block-preserved : goal.loop-block-preserved
loop-block-preserved c =
    let i : ℕ = c.loop-block.block - 1 in
    let so_far = c.loop-block.invariant in
    let first = ap (λ (x : Inside). x.pool.first) c.self-inside.view_is in
    let end = ap (λ (x : Inside). x.pool.end) c.self-inside.view_is in
    let next : c.loop-block.block ≡ i + 1 = omega arith in
    let h = subst (λ (n : ℕ). AreFreedFrom c.self.inside.pool.first c.self.inside.pool.end c.self.inside.held.items c.self.inside.uses c.loop-block.self-inside.pool n) next so_far.freed in
    let within : i < length c.loop-block.self-inside.held.items = (let marks = c.self.invariant.marks in let same = ap length (ap (λ (v : _). v.items) so_far.held_same) in omega (arith, marks, same, end)) in
    let used : is_unused (ledger_of c.loop-block.self-inside.pool c.self.inside.held.items c.self.inside.uses false) i ≡ false =
    elim c.else-not-index.branch [
      | else-not-index-via-then-not-index+else-not-is_named w ↦
          counted_used c.self.inside.held.items c.self.inside.uses c.loop-block.self-inside.pool i (let some = w.is_named.ensures.0 w.if-not-is_named.false in let same = ap (λ (us : List ℕ). slice_index us i) so_far.uses_same in omega (arith, some, same))
      | else-not-index-via-else-not-index w ↦
          marked_used c.self.inside.held.items c.self.inside.uses c.loop-block.self-inside.pool i
          (sym (ap (λ (v : _). slice_index_or v.items i false) so_far.held_same) ∙ (get_or_default c.loop-block.self-inside.held.items i false c.index.result.now within ∙ (sym c.index.ensures ∙ w.if-not-index.false)))
    ] in
    record {
      freed = freed_same c.self.inside.pool.first c.self.inside.pool.end c.self.inside.held.items c.self.inside.uses c.loop-block.self-inside.pool i h (omega (arith, end)) used;
      held_same = so_far.held_same;
      uses_same = so_far.uses_same;
      above = λ le. omega (arith, le, first, end);
      none = λ lt. absurd (omega (arith, lt, first, end));
    }
