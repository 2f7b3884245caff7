-- The vector clocks of all entities.
use Rattle.std.specs.Prelude.{ℕ, ◌==◌, if◌then◌else◌, List, [], ◌∷◌, max, slice_index_or}
use Rattle.base_types.specs.declared.histories.Touch.{Touch}
use Rattle.data_stamps.specs.Stamps.{component}
use Rattle.data_stamps.specs.declared.Stamp.{Stamp}
use Rattle.trace_state.specs.declared.clocks.Clocks.{Clocks}

-- past the last entity there is none
abbrev pub no_stamp : Stamp
no_stamp = record { 0 = [] }

-- the clock of the entity
abbrev pub clock_at : Clocks → ℕ → ℕ → ℕ
clock_at clocks x = component (slice_index_or clocks.stamps.items x no_stamp)

-- the clock of what an event with these touches writes: the greatest of the touched clocks and of the versions that it tells
abbrev pub joined_in : (ℕ → ℕ → ℕ) → List Touch → ℕ → ℕ
joined_in clocks [] y = 0
joined_in clocks (t ∷ ts) y = max (max (clocks t.entity y) (if t.entity == y then t.version else 0)) (joined_in clocks ts y)
