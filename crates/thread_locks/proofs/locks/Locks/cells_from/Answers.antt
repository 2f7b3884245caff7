use Rattle.std.proofs.Common.{◌≡◌, ◌≤◌, ◌+◌, ◌-◌, ◌++◌, ◌∷◌, ℕ, List, [], map, sym, ap, subst, ◌∙◌, arith}
use Rattle.std.proofs.lemmas.List.{map-append}
use Rattle.std.specs.Sync.Mutex.{mutex_guard_value}
use Rattle.thread_items.specs.thread_desk.Sights.{Sighted}
use Rattle.thread_locks.specs.Rows.{AreFrom}
use Rattle.thread_locks.proofs.Rows.{one_from}
use Rattle.thread_locks.proofs.locks.Locks.cells_from.Goals as goal

pub loop-number-preserved : goal.loop-number-preserved
loop-number-preserved g c =
    let was = c.loop-number.invariant in
    let from = c.args.from in
    let n = c.loop-number.number in
    let guard = c.in_ok-guard.guard in
    let old = c.loop-number.guards.items in
    let low : from ≤ n = (let len = was.len in omega (arith, len)) in
    let told : (mutex_guard_value guard).number ≡ n = c.in_ok-guard.ensures.number ∙ c.of.ensures in
    let here : (mutex_guard_value guard).number ≡ from + (n - from) = omega (arith, told, low) in
    let more : (n - from) + 1 ≡ (n + 1) - from = omega (arith, low) in
    let items : map mutex_guard_value c.push_reserved.new.self.items ≡ map mutex_guard_value old ++ mutex_guard_value guard ∷ [] = ap (map mutex_guard_value) c.push_reserved.ensures.items ∙ map-append mutex_guard_value old (guard ∷ []) in
    let len = was.len in
    let longer = c.push_reserved.ensures.len in
    let room = was.room in
    let kept = c.push_reserved.ensures.capacity in
    record {
      row = subst (λ (ss : List (Sighted g.row.D.Denot)). AreFrom from ((n + 1) - from) ss) (sym items)
          (subst (λ (m : ℕ). AreFrom from m (map mutex_guard_value old ++ mutex_guard_value guard ∷ [])) more
          (one_from from (n - from) (map mutex_guard_value old) (mutex_guard_value guard) here was.row));
      len = omega (arith, len, longer);
      room = omega (arith, room, kept);
    }
