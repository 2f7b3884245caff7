-- Numbers below a bound.
use Rattle.std.specs.Prelude.{ℕ, ◌<◌, List, [], ◌∷◌}

abbrev pub AllBelow : ℕ → List ℕ → Type 0
AllBelow n [] = Unit {0}
AllBelow n (x ∷ xs) = (x < n) × AllBelow n xs
