-- Names in their lists, and tables by name.
use Rattle.std.proofs.Common.{◌≡◌, ℕ, ◌+◌, ◌<◌, if◌then◌else◌, List, Some, drop, get_or, length, map, sym, ap, ◌∙◌}
use Rattle.std.proofs.lemmas.List.{at_drop_more, get_or-map, length-map}
use Rattle.model_kernel.specs.Scripts.{place_of, text_eq}
use Rattle.model_kernel.specs.State.{Text}

-- the first name of those that are left is the one or not
pub place_at : {X : Type 0} (f : X → Text) (name : Text) (xs : List X) (i n : ℕ) (x : X) → i < length xs → x ≡ get_or xs i x
    → place_of name (drop i (map f xs)) n ≡ (if text_eq name (f x) then Some n else place_of name (drop (i + 1) (map f xs)) (n + 1))
place_at f name xs i n x lt is =
    at_drop_more (λ ts. place_of name ts n) (map f xs) i (f x) (rw length-map lt)
    ∙ ap (λ t. if text_eq name t then Some n else place_of name (drop (i + 1) (map f xs)) (n + 1)) (get_or-map f xs i x (f x) lt ∙ ap f (sym is))
