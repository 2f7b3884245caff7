-- Names of at most 24 bytes.
use Rattle.std.proofs.Common.{ℕ, zero, suc, ◌-◌, ◌≤◌, ◌==◌, Bool, true, false, nat_lt, if◌then◌else◌, List, [], ◌∷◌, length, map, slice_get, string_bytes, unwrap_or, arith}
use Rattle.std.specs.List.{All}
use Rattle.std.proofs.lemmas.List.Elements.{All-head, All-tail}
use Rattle.std.proofs.Common.{String, Global}
use Rattle.model_kernel.specs.Scripts.{atlas_name}
use Rattle.line_text.specs.Lines.{HasShortNames, name_in, names_in}

abbrev pub IsShort : String Global → Type 0
IsShort name = length (string_bytes name) ≤ 24

short_at : (names : List (String Global)) (i : ℕ) → All IsShort names → length (unwrap_or (slice_get (map string_bytes names) i) []) ≤ 24
short_at [] i h = omega arith
short_at (name ∷ names) zero h = All-head IsShort name names h
short_at (name ∷ names) (suc i) h = short_at names i (All-tail IsShort name names h)

-- lists of short names give short names
pub HasShortNames-lists : (containers loci : List (String Global)) → All IsShort containers → All IsShort loci → HasShortNames (names_in (map string_bytes containers) (map string_bytes loci))
unfolding name_in
HasShortNames-lists containers loci c l x = by_tests (x == 0) (nat_lt x 41)
  where
    by_tests : (a b : Bool) → length (if a then atlas_name else if b then unwrap_or (slice_get (map string_bytes containers) (x - 1)) [] else unwrap_or (slice_get (map string_bytes loci) (x - 41)) []) ≤ 24
    by_tests true b = omega arith
    by_tests false true = short_at containers (x - 1) c
    by_tests false false = short_at loci (x - 41) l

-- for the test of two lists
pub ruleset short_lists = (HasShortNames-lists)
