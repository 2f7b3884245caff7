-- Things that are drawn one after another.
use Rattle.std.proofs.Common.{◌≡◌, ℕ, suc, ◌+◌, List, [], ◌∷◌, ◌++◌, map, refl, sym, ap, subst, ◌∙◌, add-one}
use Rattle.std.proofs.lemmas.List.{map_push}
use Rattle.script_drill.specs.Draws.{Words, Drawn, each}

-- n things were drawn, and these words are left
pub record SoFar {A : Type 0} (one : ℕ → Words → Drawn A) (n : ℕ) (ws : Words) (items : List A) (behind : Words) : Type 0 where
  pub made : items ≡ (each one n ws).0
  pub left : behind ≡ (each one n ws).1

pub SoFar-begun : {A : Type 0} (one : ℕ → Words → Drawn A) (ws : Words) (items : List A) → items ≡ [] → SoFar one 0 ws items ws
unfolding each
SoFar-begun one ws items none = record { made = none; left = refl }

next : {A : Type 0} (one : ℕ → Words → Drawn A) (n : ℕ) (ws : Words) (items : List A) (left : Words) (x : A) (after : Words)
    → SoFar one n ws items left → x ≡ (one n left).0 → after ≡ (one n left).1 → SoFar one (suc n) ws (items ++ x ∷ []) after
unfolding each
next {A = A} one n ws items left x after h made rest = record {
  made = ap (λ (xs : List A). xs ++ x ∷ []) h.made ∙ ap (λ (y : A). (each one n ws).0 ++ y ∷ []) (made ∙ ap (λ (vs : Words). (one n vs).0) h.left);
  left = rest ∙ ap (λ (vs : Words). (one n vs).1) h.left;
}

-- one thing more
pub SoFar-more : {A : Type 0} (one : ℕ → Words → Drawn A) (n : ℕ) (ws : Words) (items : List A) (left : Words) (x : A) (after : Words) (grown : List A)
    → SoFar one n ws items left → grown ≡ items ++ x ∷ [] → x ≡ (one n left).0 → after ≡ (one n left).1 → SoFar one (n + 1) ws grown after
SoFar-more {A = A} one n ws items left x after grown h more made behind =
    let S : List A → Type 0 = λ xs. SoFar one (n + 1) ws xs after in
    subst S (sym more) (rw add-one (next one n ws items left x after h made behind))

-- the same, where the things are told by what they stand for
pub SoFar-map_more : {A B : Type 0} (f : B → A) (one : ℕ → Words → Drawn A) (n : ℕ) (ws : Words) (items : List B) (left : Words) (x : B) (after : Words) (grown : List B)
    → SoFar one n ws (map f items) left → grown ≡ items ++ x ∷ [] → f x ≡ (one n left).0 → after ≡ (one n left).1 → SoFar one (n + 1) ws (map f grown) after
SoFar-map_more {B = B} f one n ws items left x after grown h more made behind =
    SoFar-more one n ws (map f items) left (f x) after (map f grown) h (ap (λ (xs : List B). map f xs) more ∙ map_push f items x) made behind
