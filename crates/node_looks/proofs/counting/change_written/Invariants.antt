use Rattle.std.proofs.Common.{◌≡◌, ℕ, ◌<◌, ◌&&◌, ◌||◌, ◌==◌, take}
use Rattle.std.specs.List.{list_any}
use Rattle.base_types.specs.declared.histories.Touch.{Touch}
use Rattle.node_looks.specs.Counting.{flag_at}
use Rattle.node_looks.proofs.counting.change_written.Given as goal

abbrev pub invariant-loop-touch : goal.invariant-loop-touch
invariant-loop-touch l = (x : ℕ) → x < 64 → flag_at l.changed x ≡ (list_any (λ (t : Touch). t.entity == x && t.wrote) (take l.touch-index l.touch-items) || flag_at l.fn.changed x)
