-- Lists of touches.
use Rattle.std.specs.Prelude.{◌<◌, List, [], ◌∷◌}
use Rattle.base_types.specs.declared.histories.Touch.{Touch}

abbrev pub AllTouches : (Touch → Type 0) → List Touch → Type 0
AllTouches P [] = Unit {0}
AllTouches P (t ∷ ts) = P t × AllTouches P ts

-- ascending by number, each entity once
abbrev pub IsRising : List Touch → Type 0
IsRising [] = Unit {0}
IsRising (t ∷ ts) = AllTouches (λ u. t.entity < u.entity) ts × IsRising ts
