-- What is said of a table and a cell behind a look at the plan, which leaves both.
use Rattle.std.proofs.Common.{◌≡◌, List, subst}
use Rattle.kernel_core_facts.specs.cell_states.declared.cells.Cell.{Cell}
use Rattle.thread_cells.specs.Locked.{Keeping}

-- is said of them as they were
pub as_planned : (P : List Cell → Keeping → Type 0) → {cs cs' : List Cell} → {k k' : Keeping} → (cs' ≡ cs) × (k' ≡ k) → P cs' k' → P cs k
as_planned P {cs} {cs'} {k} {k'} same said = subst (λ (ds : List Cell). P ds k) same.0 (subst (λ (j : Keeping). P cs' j) same.1 said)
