use Rattle.std.proofs.Common.{◌≡◌, ◌-◌, ◌*◌, ◌^◌, ◌++◌, List, None, ℕ, length}
use Rattle.script_types.specs.model_kernel.Serial.{rounds}
use Rattle.kernel_run_facts.specs.kernel_commit_facts.Pieces.{CountsWithin}
use Rattle.kernel_run_facts.specs.kernel_commits.Telling.{AddsNoTried}
use Rattle.kernel_run_facts.specs.kernel_core_facts.Kernels.{StaysClean}
use Rattle.kernel_run_facts.specs.kernel_invariant.Beginnings.{Beginning}
use Rattle.kernel_run_facts.specs.Running.{IsRunBy, look_most}
use Rattle.kernel_run_facts.specs.Watching.{GoesAlong}
use Rattle.kernel_runs.proofs.rounds.go_round.Given as goal

abbrev pub invariant-loop-halt : goal.invariant-loop-halt
invariant-loop-halt g l = record {
  going : l.kernel.stop ≡ None;
  tries : AddsNoTried l.fn.kernel.parts.noted.entries l.kernel.parts.noted.entries;
  clean : StaysClean g.D.Disk (g.S.Supplier.word l.gate.supply) l.kernel;
  counts : CountsWithin g.D.Disk (length l.kernel.parts.noted.entries * (23 * look_most)) l.fn.kernel.parts.store l.kernel.parts.store;
  run : g.D.Disk.tells → (b : Beginning) (first : List ℕ) (made : ℕ) → IsRunBy (g.S.Supplier.word l.gate.supply) (g.P.Policy.wish l.gate.policy) b
      → GoesAlong g.D.Disk (g.W.Watcher.watches l.fn.watcher) b (first ++ rounds made) l.fn.kernel
      → (n : ℕ) × GoesAlong g.D.Disk (g.W.Watcher.watches l.watcher) b (first ++ rounds n) l.kernel;
}

-- each round but the last notes an entry
abbrev pub decreases-loop-halt : goal.decreases-loop-halt
decreases-loop-halt g l = 2 ^ 22 - length l.kernel.parts.noted.entries
