-- What callers see of the authority and of its fragments.
use Rattle.std.specs.Prelude.{◌≡◌, ◌<◌, ℕ, List, [], ◌∷◌, length, map, slice_get}
use Rattle.atomic_table.specs.Seated.{TableId}
use Rattle.thread_ties.specs.Rules.{Shown, numbered, shown}

-- a table without a name
pub record Opening : Type 0 where
  pub table : TableId

-- the fragments of these values, in the order of their numbers
abbrev pub fragments_of : {V : Type 0} → List V → List (Shown V)
fragments_of vs = map shown (numbered 0 vs)

-- an authority to which fragments come back
pub record Ending (V : Type 0) : Type 0 where
  pub values : List V
  pub back : List (Shown V)

-- each has the value of its number
abbrev pub AllAgree : {V : Type 0} → List V → List (Shown V) → Type 0
AllAgree vs [] = Unit {0}
AllAgree vs (f ∷ fs) = (slice_get vs f.number ≡ f.value) × AllAgree vs fs

-- each number has a value
abbrev pub AllWithin : {V : Type 0} → List V → List (Shown V) → Type 0
AllWithin vs [] = Unit {0}
AllWithin vs (f ∷ fs) = (f.number < length vs) × AllWithin vs fs

abbrev pub numbers_of : {V : Type 0} → List (Shown V) → List ℕ
numbers_of fs = map (λ f. f.number) fs
