use Rattle.std.proofs.Common.{◌≡◌, ◌++◌, ℕ, List, take}
use Rattle.kernel_core.specs.kernel_core_facts.Kernels.{StaysClean}
use Rattle.kernel_core.specs.kernel_invariant.Beginnings.{Beginning}
use Rattle.kernel_clients.specs.Serving.{Serves}
use Rattle.kernel_clients.proofs.serving.let_run.Given as goal

-- behind the looks so far
abbrev pub invariant-loop-i : goal.invariant-loop-i
invariant-loop-i g l = record {
  serves : g.D.Disk.tells → (b : Beginning) (looked : List ℕ) → b.supply ≡ g.S.Supplier.word l.gate.supply → b.policy ≡ g.P.Policy.wish l.gate.policy
      → Serves g.D.Disk b looked l.fn.kernel → Serves g.D.Disk b (looked ++ take l.i l.turns) l.kernel;
  clean : StaysClean g.D.Disk (g.S.Supplier.word l.gate.supply) l.kernel;
}
