-- One more touch of an event.
use Rattle.std.proofs.Common.{◌≡◌, ℕ, ◌+◌, ◌<◌, ◌≤◌, nat_lt, replicate, Bool, true, false, ◌&&◌, ◌||◌, ◌==◌, if◌then◌else◌, List, ◌∷◌, length, max, take, drop, get_or, sym, ap, ◌∙◌, subst, arith, add-one, refl}
use Rattle.std.proofs.Math.Seq.{drop-cons}
use Rattle.std.proofs.lemmas.Bool.Decides.{nat_tests}
use Rattle.std.proofs.lemmas.List.{get_or-replicate, get_or_past, length-replicate}
use Rattle.std.proofs.lemmas.List.Folds.{list_any_more}
use Rattle.base_types.specs.declared.histories.Touch.{Touch}
use Rattle.data_stamps.specs.Stamps.{component}
use Rattle.data_stamps.specs.declared.Stamp.{Stamp}
use Rattle.trace_state.specs.Clocks.{joined_in, no_stamp}
use Rattle.trace_state.specs.Flags.{wrote_in}

-- what is left joins as before
pub joined_more : (clocks : ℕ → ℕ → ℕ) (ts : List Touch) (k y s new all : ℕ) (t : Touch) → k < length ts → t ≡ get_or ts k t
    → new ≡ max (max s (clocks t.entity y)) (if t.entity == y then t.version else 0)
    → max s (joined_in clocks (drop k ts) y) ≡ all → max new (joined_in clocks (drop (k + 1) ts) y) ≡ all
joined_more clocks ts k y s new all t h is e whole =
    let front : drop k ts ≡ get_or ts k t ∷ drop (k + 1) ts = rw add-one (drop-cons ts k t h) in
    let rest = joined_in clocks (drop (k + 1) ts) y in
    let at = if t.entity == y then t.version else 0 in
    let one : joined_in clocks (drop k ts) y ≡ max (max (clocks t.entity y) at) rest =
    ap (λ (us : List Touch). joined_in clocks us y) front ∙ ap (λ (u : Touch). max (max (clocks u.entity y) (if u.entity == y then u.version else 0)) rest) (sym is) in
    by_numbers s new (clocks t.entity y) at rest (joined_in clocks (drop k ts) y) all e one whole
  where
    by_numbers : (s new a b rest old all : ℕ) → new ≡ max (max s a) b → old ≡ max (max a b) rest → max s old ≡ all → max new rest ≡ all
    by_numbers s new a b rest old all e f g = omega arith

-- what is written so far, and one more
more_yes : (before same : Bool) (new old s o : ℕ) → new ≡ (if same then s else old) → old ≡ (if before then s else o) → new ≡ (if before || (same && true) then s else o)
more_yes true true new old s o p q = p
more_yes true false new old s o p q = p ∙ q
more_yes false true new old s o p q = p
more_yes false false new old s o p q = p ∙ q

more_no : (before same : Bool) (old s o : ℕ) → old ≡ (if before then s else o) → old ≡ (if before || (same && false) then s else o)
more_no true true old s o q = q
more_no true false old s o q = q
more_no false true old s o q = q
more_no false false old s o q = q

wrote_more : (ts : List Touch) (k x : ℕ) (t : Touch) → k < length ts → t ≡ get_or ts k t → wrote_in (take (k + 1) ts) x ≡ (wrote_in (take k ts) x || ((t.entity == x) && t.wrote))
wrote_more ts k x t h is =
    list_any_more (λ (u : Touch). u.entity == x && u.wrote) ts k t h ∙ ap (λ (u : Touch). wrote_in (take k ts) x || ((u.entity == x) && u.wrote)) (sym is)

pub written_more : (ts : List Touch) (k x : ℕ) (t : Touch) (new old s o : ℕ) → k < length ts → t ≡ get_or ts k t → t.wrote ≡ true
    → new ≡ (if t.entity == x then s else old) → old ≡ (if wrote_in (take k ts) x then s else o) → new ≡ (if wrote_in (take (k + 1) ts) x then s else o)
written_more ts k x t new old s o h is wrote p q =
    subst (λ b. new ≡ (if b then s else o)) (sym (wrote_more ts k x t h is))
    (subst (λ w. new ≡ (if wrote_in (take k ts) x || ((t.entity == x) && w) then s else o)) (sym wrote) (more_yes (wrote_in (take k ts) x) (t.entity == x) new old s o p q))

pub read_more : (ts : List Touch) (k x : ℕ) (t : Touch) (old s o : ℕ) → k < length ts → t ≡ get_or ts k t → t.wrote ≡ false
    → old ≡ (if wrote_in (take k ts) x then s else o) → old ≡ (if wrote_in (take (k + 1) ts) x then s else o)
read_more ts k x t old s o h is kept q =
    subst (λ b. old ≡ (if b then s else o)) (sym (wrote_more ts k x t h is))
    (subst (λ w. old ≡ (if wrote_in (take k ts) x || ((t.entity == x) && w) then s else o)) (sym kept) (more_no (wrote_in (take k ts) x) (t.entity == x) old s o q))

-- a list of one stamp that tells nothing tells nothing
pub nothing_told : (s : Stamp) (x y : ℕ) → component s y ≡ 0 → component (get_or (replicate 64 s) x no_stamp) y ≡ 0
nothing_told s x y none = by_place (nat_lt x 64) refl
  where
    inside : nat_lt x 64 ≡ true → x < 64
    inside is = grind (arith, nat_tests)

    outside : nat_lt x 64 ≡ false → 64 ≤ x
    outside is = grind (arith, nat_tests)

    by_place : (b : Bool) → nat_lt x 64 ≡ b → component (get_or (replicate 64 s) x no_stamp) y ≡ 0
    by_place true is = ap (λ (t : Stamp). component t y) (get_or-replicate 64 x s no_stamp (inside is)) ∙ none
    by_place false is = ap (λ (t : Stamp). component t y) (get_or_past (replicate 64 s) x no_stamp (subst (λ n. n ≤ x) (sym (length-replicate 64 s)) (outside is)))
