-- Sets of rights, as numbers with a bit for each.
use Rattle.std.specs.Prelude.{ℕ, Bool, not, ◌&&◌, ◌==◌, List, [], ◌∷◌, Option, find, codes}
use Rattle.std.specs.Int.{bit_at}
use Rattle.base_types.specs.declared.capabilities.Right.{Right}
use Rattle.base_types.specs.declared.capabilities.Right.TheVariants.{Read, Write, Invoke, Map, Copy, Snapshot, Control, Stabilise}

-- the bit that stands for a right
abbrev pub bit_of : Right → ℕ
bit_of Read = 0
bit_of Write = 1
bit_of Invoke = 2
bit_of Map = 3
bit_of Copy = 4
bit_of Snapshot = 5
bit_of Control = 6
bit_of Stabilise = 7

-- all rights, in the order of their bits
abbrev pub all_rights : List Right
all_rights = Read ∷ Write ∷ Invoke ∷ Map ∷ Copy ∷ Snapshot ∷ Control ∷ Stabilise ∷ []

-- the right is in the set
abbrev pub has_right : ℕ → Right → Bool
has_right set right = bit_at set (bit_of right) == 1

-- the right of the lowest bit that is needed and not held
abbrev pub missing_right : ℕ → ℕ → Option Right
missing_right held needed = find (λ right. has_right needed right && not (has_right held right)) all_rights

-- the names of the bits
abbrev pub names_of_rights : List (List ℕ × ℕ)
names_of_rights =
    (codes "READ", 1)
    ∷ (codes "WRITE", 2)
    ∷ (codes "INVOKE", 4)
    ∷ (codes "MAP", 8)
    ∷ (codes "COPY", 16)
    ∷ (codes "SNAPSHOT", 32)
    ∷ (codes "CONTROL", 64)
    ∷ (codes "STABILISE", 128)
    ∷ []
