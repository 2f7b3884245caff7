use Rattle.std.proofs.Common.{◌≡◌, ◌*◌, None, [], map}
use Rattle.std.specs.Prelude.{string_bytes}
use Rattle.kernel_run_facts.specs.kernel_commit_facts.Pieces.{CountsWithin}
use Rattle.kernel_run_facts.specs.kernel_commits.Telling.{AddsNoTried}
use Rattle.kernel_run_facts.specs.kernel_core_facts.Kernels.{StaysClean}
use Rattle.kernel_run_facts.specs.kernel_invariant.Beginnings.{Beginning}
use Rattle.kernel_run_facts.specs.model_serial_turns.Turns.{before_pick}
use Rattle.kernel_run_facts.specs.Running.{IsRunBy, look_most, opened_in}
use Rattle.kernel_run_facts.specs.Watching.{GoesAlong}
use Rattle.kernel_runs.proofs.looking.look_for_all.Given as goal

abbrev pub invariant-loop-i : goal.invariant-loop-i
invariant-loop-i g l = record {
  going : l.kernel.stop ≡ None;
  tries : AddsNoTried l.fn.kernel.parts.noted.entries l.kernel.parts.noted.entries;
  clean : StaysClean g.D.Disk (g.S.Supplier.word l.gate.supply) l.kernel;
  counts : CountsWithin g.D.Disk (l.i * look_most) l.fn.kernel.parts.store l.kernel.parts.store;
  run : g.D.Disk.tells → (b : Beginning) → IsRunBy (g.S.Supplier.word l.gate.supply) (g.P.Policy.wish l.gate.policy) b
      → b.script.order ≡ map string_bytes l.order
      → GoesAlong g.D.Disk (g.W.Watcher.watches l.fn.watcher) b [] l.fn.kernel
      → GoesAlong g.D.Disk (g.W.Watcher.watches l.watcher) b (before_pick b.script (opened_in b) l.i) l.kernel;
}
