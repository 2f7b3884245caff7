use Rattle.std.proofs.Common.{◌≡◌, ◌≤◌, ◌-◌, ◌*◌, ◌++◌, List, None, ℕ}
use Rattle.script_types.specs.model_kernel.Serial.{rounds}
use Rattle.kernel_run_facts.specs.kernel_commit_facts.Pieces.{CountsWithin}
use Rattle.kernel_run_facts.specs.kernel_commits.Telling.{AddsNoTried}
use Rattle.kernel_run_facts.specs.kernel_core_facts.Kernels.{StaysClean}
use Rattle.kernel_run_facts.specs.kernel_invariant.Beginnings.{Beginning}
use Rattle.kernel_run_facts.specs.Running.{IsRunBy, loci_before, look_most}
use Rattle.kernel_run_facts.specs.Watching.{GoesAlong}
use Rattle.kernel_runs.proofs.rounds.round.Given as goal

abbrev pub invariant-loop-number : goal.invariant-loop-number
invariant-loop-number g l = record {
  low : 41 ≤ l.number;
  high : l.number ≤ 64;
  going : l.kernel.stop ≡ None;
  tries : AddsNoTried l.fn.kernel.parts.noted.entries l.kernel.parts.noted.entries;
  clean : StaysClean g.D.Disk (g.S.Supplier.word l.gate.supply) l.kernel;
  counts : CountsWithin g.D.Disk ((l.number - 41) * look_most) l.fn.kernel.parts.store l.kernel.parts.store;
  run : g.D.Disk.tells → (b : Beginning) (first : List ℕ) (made : ℕ) → IsRunBy (g.S.Supplier.word l.gate.supply) (g.P.Policy.wish l.gate.policy) b
      → GoesAlong g.D.Disk (g.W.Watcher.watches l.fn.watcher) b (first ++ rounds made) l.fn.kernel
      → GoesAlong g.D.Disk (g.W.Watcher.watches l.watcher) b (loci_before first made l.number) l.kernel;
}

abbrev pub decreases-loop-number : goal.decreases-loop-number
decreases-loop-number g l = 64 - l.number
