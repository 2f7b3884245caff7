use Rattle.std.proofs.Common.{◌≡◌, ◌++◌, ◌∷◌, ◌+◌, ℕ, List, [], Some, take, slice_get, sym, ap, ap₂, ◌∙◌, arith}
use Rattle.std.proofs.lemmas.List.{take_more}
use Rattle.std.proofs.lemmas.Option.{get_or_from_slice_get, slice_get_within}
use Rattle.thread_desk.specs.kernel_core.declared.Cell.{Cell}
use Rattle.thread_cells.specs.Locked.{Keeping}
use Rattle.thread_clients.proofs.parts.unlock_all.Goals as goal

-- the cell that is pushed is the next one that the authority knows
pub loop-number-preserved : goal.loop-number-preserved
loop-number-preserved g c =
    let xs : List Cell = c.args.all.now in
    let n = c.loop-number.number in
    let met = c.meet.new.self in
    let same = c.loop-number.invariant in
    let fewer = c.in-Some.ensures.len in
    let left = same.left in
    let so_far = same.len in
    let more = c.push_reserved.ensures.len in
    let room = same.room in
    let kept = c.push_reserved.ensures.capacity in
    let number : c.into_inner-locked.result.number ≡ n = sym (ap (λ (k : Keeping). k.number) c.meet.ensures.cell) ∙ sym c.number_of.ensures ∙ c.if-number_of-number.false in
    let here : slice_get xs n ≡ Some met.cell = sym (ap₂ (λ (cs : List Cell) (k : ℕ). slice_get cs k) same.all number) ∙ c.meet.ensures.stands ∙ ap (λ (k : Keeping). Some k.cell) (sym c.meet.ensures.cell) in
    let next : take (n + 1) xs ≡ take n xs ++ met.cell ∷ [] = take_more xs n met.cell (slice_get_within xs n met.cell here) ∙ ap (λ (y : Cell). take n xs ++ y ∷ []) (get_or_from_slice_get xs n met.cell met.cell here) in
    record {
      all = c.meet.ensures.all ∙ same.all;
      left = omega (arith, fewer, left);
      cells = c.push_reserved.ensures.items ∙ ap₂ (λ (ys : List Cell) (y : Cell). ys ++ y ∷ []) same.cells c.cell_of.ensures ∙ sym next;
      len = omega (arith, so_far, more);
      room = omega (arith, room, kept);
    }
