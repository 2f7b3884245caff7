-- Which entities have changed since their newest commit.
use Rattle.std.specs.Prelude.{◌≡◌, ℕ, ◌<◌, ◌≤◌, Bool, false, List, nat_lt, slice_index_or}
use Rattle.base_types.specs.declared.histories.Entry.{Entry}
use Rattle.kernel_core.specs.kernel_book_laws.Matching.{newest_of}
use Rattle.kernel_core.specs.cell_states.declared.cells.Cell.{Cell}
use Rattle.kernel_runs.specs.kernel_invariant.Beginnings.{Beginning, run_of}
use Rattle.script_types.specs.model_kernel.Histories.{has_changed, version_of}

-- the flag of an entity
abbrev pub flag_at : List Bool → ℕ → Bool
flag_at flags x = slice_index_or flags x false

-- THE FLAGS ARE THOSE OF A RUN: of each entity whether it was written since its newest commit, which is no newer than it is
pub record HaveChanged (b : Beginning) (es : List Entry) (flags : List Bool) : Type 0 where
  pub flags_are : (x : ℕ) → x < 64 → flag_at flags x ≡ has_changed (run_of b es) x
  pub newest : (x : ℕ) → x < 64 → (run_of b es).newest x ≤ version_of (run_of b es) x

-- the cell of the entity has a newest record
abbrev pub has_record : List Cell → ℕ → Bool
has_record cells x = nat_lt 0 (newest_of cells x)
