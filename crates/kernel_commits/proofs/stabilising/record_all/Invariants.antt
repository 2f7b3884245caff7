use Rattle.std.proofs.Common.{ℕ}
use Rattle.kernel_commit_facts.specs.kernel_invariant.Beginnings.{Beginning}
use Rattle.kernel_commit_facts.specs.Stabilising.{NeedsFit, OwesStable}
use Rattle.kernel_commit_facts.specs.Through.{GoesThrough, RunsThrough}
use Rattle.kernel_commits.proofs.stabilising.record_all.Given as goal

abbrev pub invariant-loop-x : goal.invariant-loop-x
invariant-loop-x g l = record {
  through : GoesThrough g.D.Disk l.x l.fn.core l.core;
  run : g.D.Disk.tells → (b : Beginning) (actor : ℕ) → OwesStable g.D.Disk b actor l.fn.core
      → RunsThrough g.D.Disk b actor l.x l.fn.core l.core;
  fits : NeedsFit l.core;
}
