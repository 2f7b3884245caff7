use Rattle.std.proofs.Common.{drop}
use Rattle.kernel_commit_facts.specs.model_kernel.State.{Supply}
use Rattle.kernel_commit_facts.specs.table_laws.Tables.{AreClean}
use Rattle.kernel_commit_facts.specs.kernel_record_facts.Cells.{words_on}
use Rattle.kernel_commit_facts.specs.kernel_invariant.Beginnings.{Beginning}
use Rattle.kernel_commit_facts.specs.Snapping.{RunsFree}
use Rattle.kernel_commit_facts.specs.Steady.{IsSteady}
use Rattle.kernel_commits.specs.Telling.{AddsNoTried}
use Rattle.kernel_commits.proofs.Along.{SnapsAlong}
use Rattle.kernel_commit_facts.proofs.Counting.{CountsAlong}
use Rattle.kernel_commits.proofs.snapping.snap_touched.Given as goal

abbrev pub invariant-loop-i : goal.invariant-loop-i
invariant-loop-i g l = record {
  steady : IsSteady g.D.Disk l.core;
  notes : AddsNoTried l.fn.core.noted.entries l.core.noted.entries;
  counts : CountsAlong g.D.Disk l.i l.fn.core.store l.core.store;
  clean : g.D.Disk.tells → (s : Supply) → AreClean s (words_on (g.D.Disk.reading l.fn.core.store.disk)) l.fn.core.cells → AreClean s (words_on (g.D.Disk.reading l.core.store.disk)) l.core.cells;
  run : g.D.Disk.tells → (b : Beginning) → RunsFree g.D.Disk b (g.P.Policy.wish l.gate.policy) l.fn.core
      → SnapsAlong g.D.Disk b (g.P.Policy.wish l.gate.policy) l.touches (drop l.i l.touches) l.fn.core l.core;
}
