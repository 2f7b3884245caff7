-- A cell that may be committed to a store without records.
use Rattle.std.specs.Prelude.{◌≡◌, ◌≤◌, ℕ, Bool}
use Rattle.data_stamps.specs.Stamps.{component}
use Rattle.cell_states.specs.declared.cells.Cell.{Cell}
use Rattle.kernel_records.specs.kernel_record_facts.Cells.{IsSoundIn, IsSpellable}
use Rattle.kernel_records.specs.cell_wish_laws.Founded.{IsFoundedCell}

-- it has a spelling, its version is its own component of its clock, and it has no blocks
pub record IsFit (c : Cell) : Type 0 where
  pub spellable : IsSpellable c
  pub own : component c.clock.stamp c.clock.entity ≡ c.clock.version
  pub some : 1 ≤ c.clock.version
  pub sound : (held : ℕ → Bool) → IsSoundIn held c.part
  pub founded : IsFoundedCell c
