-- The items of one pass among all items.
use Rattle.std.specs.Prelude.{◌≡◌, ◌≢◌, ◌⊎◌, ◌≤◌, ℕ, List, [], ◌∷◌}
use Rattle.thread_board.specs.declared.views.PassItem.{PassItem}

-- true of each
abbrev pub Each : {A : Type 0} → (A → Type 0) → List A → Type 0
Each P [] = Unit {0}
Each P (x ∷ xs) = P x × Each P xs

-- the first list stands in the second, in its order
abbrev pub IsWithin : {A : Type 0} → List A → List A → Type 0
IsWithin [] ys = Unit {0}
IsWithin (x ∷ xs) [] = ⊥
IsWithin (x ∷ xs) (y ∷ ys) = ((x ≡ y) × IsWithin xs ys) ⊎ IsWithin (x ∷ xs) ys

-- each item is of the pass of that number
abbrev pub AllOf : {T : Type 0} → ℕ → List (PassItem T) → Type 0
AllOf n = Each (λ x. x.pass ≡ n)

-- WHERE ITEMS STAND
-- An item covers the places from `starts` up to `ends`; an item of no entry covers none, and says where it stands.
module _ {T : Type 0} (starts ends : T → ℕ) where
  -- the one ends before the other starts
  abbrev pub IsBefore : PassItem T → PassItem T → Type 0
  IsBefore x y = ends x.item ≤ starts y.item

  -- each item ends before each later one starts
  abbrev pub IsRising : List (PassItem T) → Type 0
  IsRising [] = Unit {0}
  IsRising (x ∷ xs) = Each (IsBefore x) xs × IsRising xs

  -- no item of the one covers a place that an item of the other covers
  abbrev pub AreApart : List (PassItem T) → List (PassItem T) → Type 0
  AreApart xs ys = Each (λ x. Each (λ y. IsBefore x y ⊎ IsBefore y x) ys) xs

  -- what stands among rising items rises
  abbrev pub AreRising : Type 0
  AreRising = (all xs : List (PassItem T)) → IsRising all → IsWithin xs all → IsRising xs

  -- the items of two passes cover no place twice
  abbrev pub ArePasses : Type 0
  ArePasses = (all xs ys : List (PassItem T)) (n m : ℕ) → IsRising all → IsWithin xs all → IsWithin ys all → AllOf n xs → AllOf m ys → n ≢ m → AreApart xs ys
