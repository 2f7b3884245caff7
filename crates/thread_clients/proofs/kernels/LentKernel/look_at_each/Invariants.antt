use Rattle.std.proofs.Common.{◌≡◌, ◌++◌, ℕ, List, take}
use Rattle.thread_stables.specs.kernel_core_facts.Kernels.{StaysClean}
use Rattle.thread_stables.specs.kernel_core_facts.kernel_invariant.Beginnings.{Beginning}
use Rattle.thread_clients.specs.Running.{IsBehindLooks}
use Rattle.thread_clients.proofs.kernels.LentKernel.look_at_each.Given as goal

-- behind the looks so far
abbrev pub invariant-loop-i : goal.invariant-loop-i
invariant-loop-i g l = record {
  behind : g.D.Disk.tells → (b : Beginning) (looked : List ℕ) → b.supply ≡ g.S.Supplier.word l.gate.supply → b.policy ≡ g.P.Policy.wish l.gate.policy
      → IsBehindLooks g.D.Disk b looked l.fn.self → IsBehindLooks g.D.Disk b (looked ++ take l.i l.loci) l.self;
  clean : StaysClean g.D.Disk (g.S.Supplier.word l.gate.supply) l.self;
}
