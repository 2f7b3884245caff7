-- The lines of a store's list: commits, and at most one stop, which is the last.
use Rattle.std.specs.Prelude.{◌≡◌, Bool, true, not, filter, List, [], ◌∷◌}
use Rattle.std.specs.List.{list_any}

-- a stop is among these
abbrev pub has_stop : {C : Type 0} → (C → Bool) → List C → Bool
has_stop stops cs = list_any stops cs

-- after a stop there is nothing
abbrev pub StopsLast : {C : Type 0} → (C → Bool) → List C → Type 0
StopsLast stops [] = Unit {0}
StopsLast stops (c ∷ cs) = (stops c ≡ true → cs ≡ []) × StopsLast stops cs

-- the commits, without the stop
abbrev pub commits_of : {C : Type 0} → (C → Bool) → List C → List C
commits_of stops cs = filter (λ c. not (stops c)) cs
