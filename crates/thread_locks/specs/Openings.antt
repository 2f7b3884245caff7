-- What callers see of a kernel that is to lie under locks.
use Rattle.std.specs.Prelude.{ℕ}
use Rattle.atomic_table.specs.Seated.{TableId}
use Rattle.kernel_run_facts.specs.kernel_core_facts.Kernels.{Held}

-- the kernel, and the names of the tables that have none yet: of the tie of its cells, of its store, of its history, and of the board's with its ledger
pub record Opened (D : Type 0) : Type 0 where
  pub kernel : Held D
  pub cells : TableId
  pub stores : TableId
  pub history : TableId
  pub slate : TableId
  pub ledger : ℕ
