-- The items of several passes.
use Rattle.std.specs.Prelude.{ℕ, List, [], ◌∷◌}
use Rattle.thread_board.specs.Items.{AreApart, Each}
use Rattle.thread_board.specs.Sides.{PassSeen}

-- NO TWO OF THE PASSES have items that cover a place twice
abbrev pub AreAllApart : {T : Type 0} → (T → ℕ) → (T → ℕ) → List (PassSeen T) → Type 0
AreAllApart starts ends [] = Unit {0}
AreAllApart starts ends (p ∷ ps) = Each (λ q. AreApart starts ends p.items q.items) ps × AreAllApart starts ends ps
