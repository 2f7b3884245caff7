-- How far a search for the greatest closed choice has come, from the versions `low` at its start.
use Rattle.std.specs.Prelude.{◌≡◌, ℕ, ◌+◌, ◌<◌, Bool, false, nat_lt, List, [], Option, Some, None, length, slice_index, slice_index_or, sum_by, IfSome, MatchBool}
use Rattle.base_types.specs.declared.records.Rec.{Rec}
use Rattle.model_cut_laws.specs.model_kernel.Choices.{IsBelow, IsClosedChoice}
use Rattle.model_cut_laws.specs.Records.{commits_of}

-- RECORDS AND THEIR PLACES

abbrev pub no_record : Rec
no_record = record { entity = 0; version = 0; stamp = []; length = 0; blocks = [] }

abbrev pub record_at : List Rec → ℕ → Rec
record_at recs i = slice_index_or recs i no_record

abbrev pub entity_at : List Rec → ℕ → ℕ
entity_at recs i = (record_at recs i).entity

abbrev pub stamp_at : List Rec → ℕ → ℕ → ℕ
stamp_at recs i = slice_index (record_at recs i).stamp

abbrev pub version_in : List Rec → ℕ → ℕ
version_in recs i = (record_at recs i).version

-- the version of the record at a place, that of the start for none
abbrev pub version_at : List Rec → ℕ → Option ℕ → ℕ
version_at recs start None = start
version_at recs start (Some i) = version_in recs i

-- the record is of the entity x and above its start
abbrev pub IsOf : (ℕ → ℕ) → List Rec → ℕ → ℕ → Type 0
IsOf low recs x i = (entity_at recs i ≡ x) × (low x < version_in recs i)

abbrev pub place_at : List (Option ℕ) → ℕ → Option ℕ
place_at places x = slice_index_or places x None

-- whether the entity is marked, false past the last one
abbrev pub mark_at : List Bool → ℕ → Bool
mark_at marks x = slice_index_or marks x false

abbrev pub IsWithin : List Rec → Option ℕ → Type 0
IsWithin recs o = IfSome o (λ i. i < length recs)

-- the place is a later one
abbrev pub IsAfter : Option ℕ → ℕ → Type 0
IsAfter None i = Unit {0}
IsAfter (Some k) i = k < i

-- CHAINS

-- of the first n records the last one of the entity x above its start
pub record IsLastOf (low : ℕ → ℕ) (recs : List Rec) (n x : ℕ) (o : Option ℕ) : Type 0 where
  pub one : IfSome o (λ k. (k < n) × IsOf low recs x k)
  pub last : (j : ℕ) → j < n → IsAfter o j → IsOf low recs x j → ⊥

-- each of the first n records is linked to the one before it of the same entity above its start
abbrev pub IsChain : (ℕ → ℕ) → List Rec → ℕ → List (Option ℕ) → Type 0
IsChain low recs n before = (i : ℕ) → i < n → IsLastOf low recs i (entity_at recs i) (place_at before i)

-- COVERING

-- the record at the place asks for no more than p
abbrev pub IsCovered : List Rec → (ℕ → ℕ) → Option ℕ → Type 0
IsCovered recs p None = Unit {0}
IsCovered recs p (Some i) = IsBelow (stamp_at recs i) p

-- it asks for a later version of x than n
abbrev pub needs_more : List Rec → Option ℕ → ℕ → ℕ → Bool
needs_more recs None x n = false
needs_more recs (Some i) x n = nat_lt n (stamp_at recs i x)

-- the newest record before k, of the same entity and above its start, that is covered
pub record IsLoweredTo (low : ℕ → ℕ) (recs : List Rec) (k : ℕ) (p : ℕ → ℕ) (o : Option ℕ) : Type 0 where
  pub one : IfSome o (λ j. (j < k) × IsOf low recs (entity_at recs k) j)
  pub covered : IsCovered recs p o
  pub newest : (j : ℕ) → j < k → IsAfter o j → IsOf low recs (entity_at recs k) j → IsCovered recs p (Some j) → ⊥

-- the mark says whether the record asks for more
abbrev pub IsMarked : List Rec → (ℕ → ℕ) → Option ℕ → Bool → Type 0
IsMarked recs p o mark = MatchBool mark (IsCovered recs p o → ⊥) (IsCovered recs p o)

-- SEARCHES

-- `chosen`, `p` and `lacking` give per entity the place of the chosen record, its version, and its mark
pub record IsSearch (low : ℕ → ℕ) (recs : List Rec) (chosen : ℕ → Option ℕ) (p : ℕ → ℕ) (lacking : ℕ → Bool) : Type 0 where
  pub one : (x : ℕ) → IfSome (chosen x) (λ k. (k < length recs) × IsOf low recs x k)
  pub versions : (x : ℕ) → p x ≡ version_at recs (low x) (chosen x)
  -- no later record is covered
  pub passed : (x i : ℕ) → i < length recs → IsAfter (chosen x) i → IsOf low recs x i → IsCovered recs p (Some i) → ⊥
  pub marked : (x : ℕ) → IsMarked recs p (chosen x) (lacking x)
  -- no closed choice is lost
  pub above : (q : ℕ → ℕ) → IsClosedChoice low (commits_of recs) q → IsBelow q p

abbrev pub count_to : Option ℕ → ℕ
count_to None = 0
count_to (Some k) = k + 1

-- at most so many falls are left
abbrev pub falls_left : List (Option ℕ) → ℕ
falls_left chosen = sum_by count_to chosen
