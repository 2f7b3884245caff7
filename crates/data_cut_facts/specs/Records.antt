-- What a search finds, and the order of records that it asks for.
use Rattle.std.specs.Prelude.{◌≡◌, ℕ, ◌≤◌, List, AllPairs, slice_index}
use Rattle.base_types.specs.declared.records.Rec.{Rec}
use Rattle.base_types.specs.declared.records.Cut.{Cut}

-- per entity the chosen version
abbrev pub choice : Cut → ℕ → ℕ
choice cut = slice_index cut.0

-- the versions of one entity ascend
abbrev pub IsAscending : List Rec → Type 0
IsAscending recs = AllPairs (λ r s. r.entity ≡ s.entity → r.version ≤ s.version) recs
