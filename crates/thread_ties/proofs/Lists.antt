-- A list after a change in one place.
use Rattle.std.proofs.Common.{◌≡◌, ◌≢◌, ℕ, zero, suc, List, [], ◌∷◌, set, Some, None, refl, ap}
use Rattle.std.specs.Prelude.{slice_get}

pub none_here : {A : Type 0} (a : A) → None ≡ Some a → ⊥
none_here a e = cc e

-- an item that is there, after a change in its place and elsewhere
pub get_here : {A : Type 0} (l : List A) (i : ℕ) (a b : A) → slice_get l i ≡ Some b → slice_get (set l i a) i ≡ Some a
get_here [] i a b e = absurd (none_here b e)
get_here (x ∷ xs) zero a b e = refl
get_here (x ∷ xs) (suc i) a b e = get_here xs i a b e

pub get_else : {A : Type 0} (l : List A) (i j : ℕ) (a : A) → j ≢ i → slice_get (set l i a) j ≡ slice_get l j
get_else [] i j a n = refl
get_else (x ∷ xs) zero zero a n = absurd (n refl)
get_else (x ∷ xs) zero (suc j) a n = refl
get_else (x ∷ xs) (suc i) zero a n = refl
get_else (x ∷ xs) (suc i) (suc j) a n = get_else xs i j a (λ e. n (ap suc e))
