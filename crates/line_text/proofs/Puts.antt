-- Puts of one piece for each number from 0 on.
use Rattle.std.proofs.Common.{◌≡◌, ℕ, zero, suc, ◌+◌, ◌<◌, inl, inr, List, [], ◌∷◌, ◌++◌, Option, Result, Ok, Err, sym, ap, ◌∙◌, arith, subst}
use Rattle.std.specs.Io.KnownBytes.{Appends}
use Rattle.std.specs.List.{flat_map}
use Rattle.std.specs.Result.{IsErrAnd}
use Rattle.std.proofs.KnownBytes.{Appends-trans}
use Rattle.std.proofs.lemmas.Bool.{cases_lt}
use Rattle.std.proofs.lemmas.Grind.{flat_map-append}
use Rattle.std.proofs.lemmas.List.{append-nil}
use Rattle.std.proofs.lemmas.List.Concat.{flat_map-cons}
use Rattle.base_types.specs.Edges.{upto}
use Rattle.edge_streams.specs.Streams.{AppendsPart, Puts}
use Rattle.edge_streams.proofs.Streams.{AppendsPart-more, AppendsPart-after}

-- the piece of the last number stands at the end
pieces_to : (f : ℕ → List ℕ) (i : ℕ) → flat_map f (upto (suc i)) ≡ flat_map f (upto i) ++ f i
pieces_to f i = flat_map-append f (upto i) (i ∷ []) ∙ ap (λ l. flat_map f (upto i) ++ l) (flat_map-cons f i [] ∙ append-nil (f i))

-- the pieces before a number were put, and then its own
pub Appends-upto : (f : ℕ → List ℕ) (a b c : Option (List ℕ)) (i j : ℕ) → j ≡ i + 1 → Appends a b (flat_map f (upto i)) → Appends b c (f i) → Appends a c (flat_map f (upto j))
Appends-upto f a b c i j next before piece =
    let e : j ≡ suc i = omega arith in
    subst (λ k. Appends a c (flat_map f (upto k))) (sym e) (subst (Appends a c) (sym (pieces_to f i)) (Appends-trans a b c (flat_map f (upto i)) (f i) before piece))

-- the pieces before a number were put, and a prefix of its own
pub AppendsPart-upto : (f : ℕ → List ℕ) (a b c : Option (List ℕ)) (n i : ℕ) → i < n → Appends a b (flat_map f (upto i)) → AppendsPart b c (f i) → AppendsPart a c (flat_map f (upto n))
AppendsPart-upto f a b c zero i low before part = absurd (omega arith)
AppendsPart-upto f a b c (suc n) i low before part =
    subst (AppendsPart a c) (sym (pieces_to f n)) (elim (cases_lt i n) as (λ _. AppendsPart a c (flat_map f (upto n) ++ f n)) [
      | inl lower ↦ AppendsPart-more a c (flat_map f (upto n)) (f n) (AppendsPart-upto f a b c n i lower before part)
      | inr high ↦ let e : i ≡ n = omega arith in AppendsPart-after a b c (flat_map f (upto n)) (f n) (subst (λ k. Appends a b (flat_map f (upto k))) e before) (subst (λ k. AppendsPart b c (f k)) e part)
    ])

-- For a proof about a piece for each number.
pub ruleset pieces = (Appends-upto, AppendsPart-upto)

-- some bytes were put, and then others, or a prefix of them
pub Puts-then : {T E : Type 0} (a b c : Option (List ℕ)) (r : Result T E) (first rest : List ℕ) → Appends a b first → Puts b c r rest → Puts a c r (first ++ rest)
Puts-then a b c (Ok x) first rest before now = Appends-trans a b c first rest before now
Puts-then a b c (Err e) first rest before now = AppendsPart-after a b c first rest before now

-- where a part of the bytes was put and the error handed on
pub Puts-cut : {T E : Type 0} (P : E → Type 0) (a c : Option (List ℕ)) (r : Result T E) (bytes : List ℕ) → IsErrAnd r P → AppendsPart a c bytes → Puts a c r bytes
Puts-cut P a c (Ok x) bytes is part = absurd is
Puts-cut P a c (Err e) bytes is part = part

pub Puts-as : {T E : Type 0} (a c : Option (List ℕ)) (r : Result T E) (bytes same : List ℕ) → bytes ≡ same → Puts a c r bytes → Puts a c r same
Puts-as a c r bytes same e h = subst (Puts a c r) e h
