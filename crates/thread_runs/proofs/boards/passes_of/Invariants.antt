use Rattle.std.proofs.Common.{◌≡◌, false, map}
use Rattle.thread_board.specs.Items.{Each}
use Rattle.thread_runs.proofs.boards.passes_of.Given as goal

abbrev pub invariant-loop-one : goal.invariant-loop-one
invariant-loop-one g l = l.lacked ≡ false → (l.passes.items ≡ map (λ w. w.pass) l.yielded) × Each (λ w. w.lacked ≡ false) l.yielded
