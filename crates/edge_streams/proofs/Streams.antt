-- Calls on a source or a sink, one after the other.
use Rattle.std.proofs.Common.{suc, get_or, append_assoc, ◌≡◌, ◌↔◌, ℕ, ◌+◌, ◌<◌, ◌≤◌, min, List, [], ◌∷◌, ◌++◌, length, take, drop, Option, None, Some, sym, ap, ◌∙◌, arith, length-append, length-take-le, take-append-drop, drop_of_length-le, drop-drop, take-add, subst}
use Rattle.std.specs.Io.KnownBytes.{Keeps, Appends, Consumes, IsAtEnd}
use Rattle.std.proofs.Math.Seq.{take-length, take-append-add, drop-cons}
use Rattle.std.proofs.lemmas.List.{take_min, take-append-le}
use Rattle.std.proofs.lemmas.Grind.{flat_map-append}
use Rattle.std.proofs.lemmas.List.Concat.{flat_map-cons}
use Rattle.std.proofs.KnownBytes.{Appends-trans}
use Rattle.std.specs.List.{flat_map}
use Rattle.edge_streams.specs.Streams.{IsZeroAtEnd, AppendsPart}

-- nothing was put, and then these bytes were
pub Appends-from_kept : (a b c : Option (List ℕ)) (bytes : List ℕ) → Keeps a b → Appends b c bytes → Appends a c bytes
Appends-from_kept None b c bytes kept grew = tt
Appends-from_kept (Some x) None c bytes kept grew = absurd kept
Appends-from_kept (Some x) (Some y) None bytes kept grew = absurd grew
Appends-from_kept (Some x) (Some y) (Some z) bytes kept grew = grew ∙ ap (λ l. l ++ bytes) kept

-- the first bytes were put, and then n of those behind them
pub Appends-further : (a b c : Option (List ℕ)) (at n : ℕ) (bytes behind : List ℕ) → behind ≡ drop at bytes
    → Appends a b (take at bytes) → Appends b c (take n behind) → Appends a c (take (at + n) bytes)
Appends-further a b c at n bytes behind same first second =
    let joined : take at bytes ++ take n behind ≡ take (at + n) bytes = ap (λ l. take at bytes ++ take n l) same ∙ sym (take-add at n bytes) in
    subst (Appends a c) joined (Appends-trans a b c _ _ first second)

-- a prefix of the bytes is a prefix of more bytes
pub AppendsPart-more : (a b : Option (List ℕ)) (bytes more : List ℕ) → AppendsPart a b bytes → AppendsPart a b (bytes ++ more)
AppendsPart-more a b bytes more part =
    let n = part.count in
    let k = min n (length bytes) in
    let within : k ≤ length bytes = omega arith in
    let same : take n bytes ≡ take k (bytes ++ more) = sym (take_min n bytes) ∙ sym (take-append-le k bytes more within) in
    record { count = k; grew = subst (Appends a b) same part.grew }

-- all the bytes are a prefix of them
pub AppendsPart-whole : (a b : Option (List ℕ)) (bytes : List ℕ) → Appends a b bytes → AppendsPart a b bytes
AppendsPart-whole a b bytes all = record { count = length bytes; grew = subst (Appends a b) (sym (take-length bytes)) all }

-- bytes were put, and then a prefix of others
pub AppendsPart-after : (a b c : Option (List ℕ)) (first second : List ℕ) → Appends a b first → AppendsPart b c second → AppendsPart a c (first ++ second)
AppendsPart-after a b c first second all part =
    let same : first ++ take part.count second ≡ take (length first + part.count) (first ++ second) = sym (take-append-add first second part.count) in
    record { count = length first + part.count; grew = subst (Appends a c) same (Appends-trans a b c first (take part.count second) all part.grew) }

-- the pieces, split at one of them
flat_map-at : {X : Type 0} (f : X → List ℕ) (xs : List X) (i : ℕ) (x : X) → i < length xs → x ≡ get_or xs i x
    → flat_map f xs ≡ flat_map f (take i xs) ++ f x ++ flat_map f (drop (suc i) xs)
flat_map-at f xs i x here is =
    let front = flat_map f (take i xs) in
    let rest = flat_map f (drop (suc i) xs) in
    let split : flat_map f xs ≡ front ++ flat_map f (drop i xs) = ap (flat_map f) (sym (take-append-drop i xs)) ∙ flat_map-append f (take i xs) (drop i xs) in
    let item : flat_map f (drop i xs) ≡ f x ++ rest =
    ap (flat_map f) (drop-cons xs i x here) ∙ flat_map-cons f (get_or xs i x) (drop (suc i) xs) ∙ ap (λ y. f y ++ rest) (sym is) in
    split ∙ ap (λ l. front ++ l) item ∙ sym (append_assoc front (f x) rest)

-- the pieces before one were put, and a prefix of that one
pub AppendsPart-at : {X : Type 0} (f : X → List ℕ) (a b c : Option (List ℕ)) (xs : List X) (i : ℕ) (x : X) → i < length xs → x ≡ get_or xs i x
    → Appends a b (flat_map f (take i xs)) → AppendsPart b c (f x) → AppendsPart a c (flat_map f xs)
AppendsPart-at f a b c xs i x here is before part =
    let front = flat_map f (take i xs) in
    let rest = flat_map f (drop (suc i) xs) in
    subst (AppendsPart a c) (sym (flat_map-at f xs i x here is)) (AppendsPart-more a c (front ++ f x) rest (AppendsPart-after a b c front (f x) before part))

-- For a proof about several puts in a row, of one text or of the pieces of a list: name it in the tactic attribute of the function.
pub ruleset puts = (Appends-trans, AppendsPart-more, AppendsPart-whole, AppendsPart-after, AppendsPart-at)

-- n bytes that were taken from the front are none exactly where none was left, if with no byte taken none is left behind them
empty_at_end : (n : ℕ) (out left rest : List ℕ) → n ≤ length out → left ≡ take n out ++ rest → (n ≡ 0 → rest ≡ []) → (n ≡ 0) ↔ (left ≡ [])
empty_at_end n out left rest within e ends =
    let size : length left ≡ length (take n out) + length rest = ap length e ∙ length-append (take n out) rest in
    let front : length (take n out) ≡ n = length-take-le n out within in
    let to : n ≡ 0 → left ≡ [] = λ none. e ∙ ap (λ k. take k out ++ rest) none ∙ ends none in
    let from : left ≡ [] → n ≡ 0 = λ none. let zero : length left ≡ 0 = ap length none in omega arith in
    (to, from)

-- a take of as much as there is, which took nothing, leaves nothing
nothing_left : (n : ℕ) (left out : List ℕ) → 0 < length out → n ≡ min (length left) (length out) → n ≡ 0 → drop n left ≡ []
nothing_left n [] out some amount none = drop_of_length-le [] (omega arith)
nothing_left n (x ∷ xs) out some amount none = absurd (omega arith)

-- reads that took nothing, and then one that gave n bytes, are a take
pub Takes-from_read : (a b c : Option (List ℕ)) (n : ℕ) (out : List ℕ) → n ≤ length out → 0 < length out → Keeps a b
    → Consumes b c (take n out) → (n ≡ 0 → 0 < length out → IsAtEnd c) → Consumes a c (take n out) × IsZeroAtEnd n a
Takes-from_read None b c n out within some kept taken ends = (tt, tt)
Takes-from_read (Some x) None c n out within some kept taken ends = absurd kept
Takes-from_read (Some x) (Some y) None n out within some kept taken ends = absurd taken
Takes-from_read (Some x) (Some y) (Some z) n out within some kept taken ends =
    let all = sym kept ∙ taken in
    (all, empty_at_end n out x z within all (λ none. ends none some))

-- a take of as much as there is and as fits, from the bytes behind a place
Takes-shown : (n : ℕ) (left out : List ℕ) → 0 < length out → n ≡ min (length left) (length out) → take n out ≡ take n left
    → (left ≡ take n out ++ drop n left) × ((n ≡ 0) ↔ (left ≡ []))
Takes-shown n left out some amount copied =
    let all : left ≡ take n out ++ drop n left = sym (take-append-drop n left) ∙ ap (λ l. l ++ drop n left) (sym copied) in
    let within : n ≤ length out = omega arith in
    (all, empty_at_end n out left (drop n left) within all (nothing_left n left out some amount))

-- the same where what is left stands behind a place of a longer list
pub Takes-behind : (n at : ℕ) (bytes left shown out : List ℕ) → drop at bytes ≡ left → shown ≡ left → 0 < length out
    → n ≡ min (length shown) (length out) → take n out ≡ take n shown
    → (left ≡ take n out ++ drop (at + n) bytes) × ((n ≡ 0) ↔ (left ≡ []))
Takes-behind n at bytes left shown out behind same some amount copied =
    let (all, ends) = Takes-shown n left out some (amount ∙ ap (λ l. min (length l) (length out)) same) (copied ∙ ap (take n) same) in
    let rest : drop n left ≡ drop (at + n) bytes = ap (drop n) (sym behind) ∙ drop-drop n at bytes in
    (all ∙ ap (λ l. take n out ++ l) rest, ends)
