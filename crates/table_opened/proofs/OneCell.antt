-- The cell of an entity of which nothing is chosen.
use Rattle.std.proofs.Common.{◌≡◌, ℕ, None, false, refl}
use Rattle.cell_clocks.specs.declared.Clock.{Clock}
use Rattle.kernel_record_facts.specs.cell_states.declared.cells.Cell.{Cell}
use Rattle.kernel_record_facts.specs.cell_states.declared.cells.Part.{Part}
use Rattle.data_stamps.specs.Stamps.{component}
use Rattle.table_opened.specs.Opened.{IsChosenCell, IsChosenPart}

abbrev fresh : Clock → Part → ℕ → Cell
fresh clock p steps = record { clock = clock; part = p; wish = record { by_step = false; asked = false; newest = clock.version }; left = steps }

pub unborn_cell : (frames steps x : ℕ) (clock : Clock) (p : Part) → clock.entity ≡ x → clock.version ≡ 0 → ((y : ℕ) → component clock.stamp y ≡ 0) → IsChosenPart frames x None p
    → IsChosenCell frames steps x None (fresh clock p steps)
unborn_cell frames steps x clock p number version stamp part = record {
  number = number;
  part = part;
  state = λ s bytes words holds i. record { cell = part.state s bytes words holds i; version = version i; stamp = λ y. stamp y i };
  wish = refl;
  left = refl;
}
