-- At most three touches in an array of three, the rest of which is blank.
use Rattle.std.specs.Prelude.{◌≡◌, ℕ, ◌≤◌, false, List, [], ◌∷◌, length, take}
use Rattle.std.proofs.Common.{arith, length-take, sym}
use Rattle.base_types.specs.declared.histories.Touch.{Touch}
use Rattle.base_types.specs.declared.histories.Touched.TheInside.{Inside}
use Rattle.base_types.specs.Touches.{IsRising}

abbrev pub blank : Touch
blank = record { version = 0; entity = 0; wrote = false }

-- the first three, filled up with blanks
abbrev pub three : List Touch → List Touch
three [] = blank ∷ blank ∷ blank ∷ []
three (a ∷ []) = a ∷ blank ∷ blank ∷ []
three (a ∷ b ∷ []) = a ∷ b ∷ blank ∷ []
three (a ∷ b ∷ c ∷ rest) = a ∷ b ∷ c ∷ []

abbrev pub touches : Inside → List Touch
touches t = take t.len t.items

pub record IsFilled (t : Inside) : Type 0 where
  pub room : length t.items ≡ 3
  pub few : t.len ≤ 3
  pub blanks : t.items ≡ three (take t.len t.items)
  pub rising : IsRising (take t.len t.items)

abbrev pub filled : List Touch → Inside
filled ts = record { items = three ts; len = length ts }

-- the array comes back from the list
pub filled-touches : (t : Inside) → IsFilled t → filled (touches t) ≡ t
filled-touches t h =
    let n : length (take t.len t.items) ≡ t.len = omega (arith, length-take t.len t.items, h.room, h.few) in
    λ i. record { items = sym h.blanks i; len = n i }
