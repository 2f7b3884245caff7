-- Cells that the state of a table has.
use Rattle.std.proofs.Common.{◌≡◌, ◌≢◌, ℕ, List, [], ◌∷◌, slice_get, Some, sym, ap, ◌∙◌}
use Rattle.cell_steps.specs.model_kernel.Histories.{Run}
use Rattle.cell_steps.specs.model_kernel.State.{Supply, EntityState, KernelState}
use Rattle.cell_steps.specs.cell_states.declared.cells.Cell.{Cell}
use Rattle.cell_steps.specs.cell_states.Cells.{HasCell}
use Rattle.cell_steps.specs.cell_states.Wishes.{HasWish}
use Rattle.cell_steps.specs.Advances.{HasCells, HasWishes}
use Rattle.table_laws.specs.Tables.{HasTableWishes, entity_by, entity_in, state_in}
use Rattle.table_laws.specs.Lending.{ForPairs, IsApart, IsSameNumber, StandIn}
use Rattle.table_laws.proofs.Untouched.{raised, raised_apart}
pub use Rattle.cell_steps.proofs.Taking.{no_supply, no_words}

-- a state has a cell where its entity is the cell's
pub has_cell : (s : Supply) (words : ℕ → List ℕ) (w : KernelState) (c : Cell) → w c.clock.entity ≡ entity_by s words c → HasCell s words w c
has_cell s words w c is = record {
  part = ap (λ (e : EntityState). e.cell) is;
  clock = record { version = ap (λ (e : EntityState). e.version) is; stamp = λ y. ap (λ (e : EntityState). e.stamp y) is };
}

pub is_entity : (s : Supply) (words : ℕ → List ℕ) (w : KernelState) (c : Cell) → HasCell s words w c → w c.clock.entity ≡ entity_by s words c
is_entity s words w c has = λ i. record { cell = has.part i; version = has.clock.version i; stamp = λ y. has.clock.stamp y i }

pub state_has : (s : Supply) (words : ℕ → List ℕ) (cs : List Cell) (c : Cell) → slice_get cs c.clock.entity ≡ Some c → HasCell s words (state_in s words cs) c
state_has s words cs c is = has_cell s words (state_in s words cs) c (ap (entity_in s words c.clock.entity) is)

pub state_has_all : (s : Supply) (words : ℕ → List ℕ) (cs old : List Cell) → StandIn cs old → HasCells s words (state_in s words cs) old
state_has_all s words cs [] stand = tt
state_has_all s words cs (c ∷ old) stand = (state_has s words cs c stand.0, state_has_all s words cs old stand.1)

pub wishes_all : (steps : ℕ) (r : Run) (cs old : List Cell) → StandIn cs old → HasTableWishes steps r cs → HasWishes steps r old
wishes_all steps r cs [] stand has = tt
wishes_all steps r cs (c ∷ old) stand has = (has c.clock.entity c stand.0, wishes_all steps r cs old stand.1 has)

-- the same of a state with a later version of an entity apart from them
raised_cell : (s : Supply) (words : ℕ → List ℕ) (w : KernelState) (z : ℕ) (c : Cell) → z ≢ c.clock.entity → HasCell s words w c → HasCell s words (raised w z) c
raised_cell s words w z c apart has = has_cell s words (raised w z) c (raised_apart w z c.clock.entity (λ e. apart (sym e)) ∙ is_entity s words w c has)

pub raised_cells : (s : Supply) (words : ℕ → List ℕ) (w : KernelState) (z : ℕ) (old : List Cell) → IsApart z old → HasCells s words w old → HasCells s words (raised w z) old
raised_cells s words w z [] apart has = tt
raised_cells s words w z (c ∷ old) apart has = (raised_cell s words w z c apart.0 has.0, raised_cells s words w z old apart.1 has.1)

-- what is had of all is had of each
pub each_has : (s : Supply) (words : ℕ → List ℕ) (v : KernelState) (old new : List Cell) → ForPairs IsSameNumber old new → HasCells s words v new → ForPairs (λ c d. HasCell s words v d) old new
each_has s words v [] [] pairs has = tt
each_has s words v (c ∷ old) (d ∷ new) pairs has = (has.0, each_has s words v old new pairs.1 has.1)
each_has s words v [] (d ∷ new) pairs has = absurd pairs
each_has s words v (c ∷ old) [] pairs has = absurd pairs

pub each_wishes : (steps : ℕ) (r : Run) (old new : List Cell) → ForPairs IsSameNumber old new → HasWishes steps r new → ForPairs (λ c d. HasWish steps r d) old new
each_wishes steps r [] [] pairs has = tt
each_wishes steps r (c ∷ old) (d ∷ new) pairs has = (has.0, each_wishes steps r old new pairs.1 has.1)
each_wishes steps r [] (d ∷ new) pairs has = absurd pairs
each_wishes steps r (c ∷ old) [] pairs has = absurd pairs
