-- The lines of a list's items, each with its number: one line more, and a line that was put in part.
use Rattle.std.proofs.Common.{◌≡◌, ℕ, ◌+◌, ◌<◌, ◌≤◌, append-nil, List, ◌∷◌, [], ◌++◌, Option, length, take, drop, get_or, add-one, refl, sym, ap, ◌∙◌, subst, arith}
use Rattle.std.specs.Io.KnownBytes.{Appends}
use Rattle.std.specs.List.{enumerate_from, flat_map}
use Rattle.std.proofs.Math.Seq.{take-suc}
use Rattle.std.proofs.KnownBytes.{Appends-trans}
use Rattle.std.proofs.lemmas.List.{take_all}
use Rattle.std.proofs.lemmas.Grind.{flat_map-append}
use Rattle.std.proofs.lemmas.List.Concat.{flat_map-cons}
use Rattle.std.proofs.lemmas.List.FromFn.{get_or-enumerate_from, length-enumerate_from}
use Rattle.edge_streams.specs.Streams.{AppendsPart}
use Rattle.edge_streams.proofs.Streams.{AppendsPart-at}

module _ {X : Type 0} (f : ℕ × X → List ℕ) (a b c : Option (List ℕ)) (xs : List X) (i : ℕ) (x : X)
    (here : i < length xs) (is : x ≡ get_or xs i x) where
  item : (i, x) ≡ get_or (enumerate_from 0 xs) i (i, x)
  item =
      let at : get_or (enumerate_from 0 xs) i (i, x) ≡ (0 + i, get_or xs i x) = get_or-enumerate_from 0 xs i (i, x) here in
      let same : i ≡ 0 + i = omega arith in
      ap (λ (k : ℕ). (k, x)) same ∙ ap (λ (y : X). (0 + i, y)) is ∙ sym at

  pub one_more : Appends a b (flat_map f (take i (enumerate_from 0 xs))) → Appends b c (f (i, x))
      → Appends a c (flat_map f (take (i + 1) (enumerate_from 0 xs)))
  one_more before now =
      let within : i < length (enumerate_from 0 xs) = let n = length-enumerate_from 0 xs in omega arith in
      let split : take (i + 1) (enumerate_from 0 xs) ≡ take i (enumerate_from 0 xs) ++ (i, x) ∷ [] =
      rw add-one (take-suc (enumerate_from 0 xs) i (i, x) within ∙ ap (λ p. take i (enumerate_from 0 xs) ++ p ∷ []) (sym item)) in
      let text : flat_map f (take (i + 1) (enumerate_from 0 xs)) ≡ flat_map f (take i (enumerate_from 0 xs)) ++ f (i, x) =
      ap (flat_map f) split ∙ flat_map-append f (take i (enumerate_from 0 xs)) ((i, x) ∷ [])
      ∙ ap (λ l. flat_map f (take i (enumerate_from 0 xs)) ++ l) (flat_map-cons f (i, x) [] ∙ append-nil (f (i, x))) in
      subst (Appends a c) (sym text) (Appends-trans a b c _ _ before now)

  pub in_part : Appends a b (flat_map f (take i (enumerate_from 0 xs))) → AppendsPart b c (f (i, x))
      → AppendsPart a c (flat_map f (enumerate_from 0 xs))
  in_part = AppendsPart-at f a b c (enumerate_from 0 xs) i (i, x) (let n = length-enumerate_from 0 xs in omega arith) item

-- all of them
pub whole : {X : Type 0} (f : ℕ × X → List ℕ) (xs : List X) (i : ℕ) → length xs ≤ i
    → flat_map f (take i (enumerate_from 0 xs)) ≡ flat_map f (enumerate_from 0 xs)
whole f xs i all =
    let within : length (enumerate_from 0 xs) ≤ i = let n = length-enumerate_from 0 xs in omega arith in
    ap (flat_map f) (take_all i (enumerate_from 0 xs) within)
