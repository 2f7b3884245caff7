-- Lists of regions stay in order.
use Rattle.std.proofs.Common.{◌≡◌, ℕ, zero, suc, ◌+◌, ◌<◌, ◌≤◌, Bool, true, false, cond, not, ◌&&◌, ◌||◌, ltb, List, [], ◌∷◌, get_or, Option, Some, None, refl, sym, ap, ◌∙◌, subst, ⊎_elim, arith}
use Rattle.std.specs.Prelude.{IsSomeAnd, IsTrue, find, filter, slice_get, insert, remove}
use Rattle.std.specs.List.{list_any}
use Rattle.std.proofs.lemmas.Bool.{false≢true, cases_lt}
use Rattle.std.proofs.lemmas.Option.{get_or_from_slice_get}
use Rattle.std.proofs.lemmas.Bool.Decides.{nat_tests}
use borrow.Author.Tests.{ne_eqb, eqb-true, lt-ltb}
use Rattle.base_types.specs.declared.capabilities.Region.{Region}
use Rattle.data_regions.specs.Regions.{IsRegion, AllEndBefore, AreRegions, overlaps, insert_region, begins_at}

le_not : (m n : ℕ) → m ≤ n → ltb n m ≡ false
le_not m n l = grind (arith, nat_tests)

any_false : (r s : Region) (rest : List Region) → list_any (overlaps r) (s ∷ rest) ≡ false → (overlaps r s ≡ false) × (list_any (overlaps r) rest ≡ false)
any_false r s rest e = by (overlaps r s) refl e
  where
    by : (b : Bool) → overlaps r s ≡ b → (b || list_any (overlaps r) rest) ≡ false → (overlaps r s ≡ false) × (list_any (overlaps r) rest ≡ false)
    by true is f = absurd (false≢true (sym f))
    by false is f = (is, f)

-- regions that don't overlap lie one behind the other
apart : (r s : Region) → overlaps r s ≡ false → r.at < s.at + s.count → s.at < r.at + r.count → ⊥
apart r s e l m = false≢true (sym e ∙ ap (λ b. b && ltb s.at (r.at + r.count)) (lt-ltb r.at (s.at + s.count) l) ∙ lt-ltb s.at (r.at + r.count) m)

all_later : (r s : Region) (rest : List Region) → r.at + r.count ≤ s.at → AllEndBefore s rest → AllEndBefore r rest
all_later r s [] le all = tt
all_later r s (x ∷ rest) le all = (omega (arith, all.0), all_later r s rest le all.1)

module _ (r s : Region) (rest : List Region) where
  pub inserted_first : r.at < s.at → insert_region r (s ∷ rest) ≡ r ∷ s ∷ rest
  inserted_first l = ap (λ b. cond b (r ∷ s ∷ rest) (s ∷ insert_region r rest)) (lt-ltb r.at s.at l)

  pub inserted_later : s.at ≤ r.at → insert_region r (s ∷ rest) ≡ s ∷ insert_region r rest
  inserted_later l = ap (λ b. cond b (r ∷ s ∷ rest) (s ∷ insert_region r rest)) (le_not s.at r.at l)

all_with : (x r : Region) (rs : List Region) → x.at + x.count ≤ r.at → AllEndBefore x rs → AllEndBefore x (insert_region r rs)
all_with x r [] le all = (le, tt)
all_with x r (s ∷ rest) le all = ⊎_elim
    (λ (l : r.at < s.at). subst (AllEndBefore x) (sym (inserted_first r s rest l)) (le, all))
    (λ (l : s.at ≤ r.at). subst (AllEndBefore x) (sym (inserted_later r s rest l)) (all.0, all_with x r rest le all.1))
    (cases_lt r.at s.at)

pub insert_keeps : (r : Region) (rs : List Region) → IsRegion r → AreRegions rs → list_any (overlaps r) rs ≡ false → AreRegions (insert_region r rs)
insert_keeps r [] ok all e = (ok, tt, tt)
insert_keeps r (s ∷ rest) ok all e =
    let parts = any_false r s rest e in
    ⊎_elim
    (λ (l : r.at < s.at).
    let ends : r.at + r.count ≤ s.at = ⊎_elim (λ (m : s.at < r.at + r.count). absurd (apart r s parts.0 (omega arith) m)) (λ (g : r.at + r.count ≤ s.at). g) (cases_lt s.at (r.at + r.count)) in
    subst AreRegions (sym (inserted_first r s rest l)) (ok, (ends, all_later r s rest ends all.1), all))
    (λ (l : s.at ≤ r.at).
    let ends : s.at + s.count ≤ r.at = ⊎_elim (λ (m : r.at < s.at + s.count). absurd (apart r s parts.0 m (omega (arith, ok.0)))) (λ (g : s.at + s.count ≤ r.at). g) (cases_lt r.at (s.at + s.count)) in
    subst AreRegions (sym (inserted_later r s rest l)) (all.0, all_with s r rest ends all.1, insert_keeps r rest ok all.2 parts.1))
    (cases_lt r.at s.at)

module _ (p : Region → Bool) where
  all_filtered : (r : Region) (rs : List Region) → AllEndBefore r rs → AllEndBefore r (filter p rs)
  all_filtered r [] all = tt
  all_filtered r (s ∷ rest) all = by (all_filtered r rest all.1) (p s)
    where
      by : AllEndBefore r (filter p rest) → (b : Bool) → AllEndBefore r (cond b (s ∷ filter p rest) (filter p rest))
      by h true = (all.0, h)
      by h false = h

  pub filter_keeps : (rs : List Region) → AreRegions rs → AreRegions (filter p rs)
  filter_keeps [] all = tt
  filter_keeps (r ∷ rest) all = by (filter_keeps rest all.2) (p r)
    where
      by : AreRegions (filter p rest) → (b : Bool) → AreRegions (cond b (r ∷ filter p rest) (filter p rest))
      by h true = (all.0, all_filtered r rest all.1, h)
      by h false = h

abbrev elsewhere : ℕ → Region → Bool
elsewhere at r = not (begins_at at r)

-- none behind a region begins where it does
none_behind : (at : ℕ) (r : Region) (rs : List Region) → at < r.at + r.count → AllEndBefore r rs → filter (elsewhere at) rs ≡ rs
none_behind at r [] l all = refl
none_behind at r (s ∷ rest) l all =
    ap (λ b. cond (not b) (s ∷ filter (elsewhere at) rest) (filter (elsewhere at) rest)) (ne_eqb s.at at (omega (arith, all.0))) ∙ ap (λ z. s ∷ z) (none_behind at r rest l all.1)

at_behind : (r s : Region) (rs : List Region) (i : ℕ) → AllEndBefore r rs → slice_get rs i ≡ Some s → r.at + r.count ≤ s.at
at_behind r s [] i all e = cc
at_behind r s (x ∷ rest) zero all e = let same : x ≡ s = cc in subst (λ y. r.at + r.count ≤ y.at) same all.0
at_behind r s (x ∷ rest) (suc i) all e = at_behind r s rest i all.1 e

-- the region that begins at a page is the first that does, and without its place the list has those that begin elsewhere
pub found : (at : ℕ) (r : Region) (rs : List Region) (i : ℕ) → AreRegions rs → slice_get rs i ≡ Some r → begins_at at r ≡ true
    → (find (begins_at at) rs ≡ Some r) × (remove rs i ≡ filter (λ s. not (begins_at at s)) rs)
found at r [] i all e b = cc
found at r (x ∷ rest) zero all e b =
    let same : x ≡ r = cc in
    let here : begins_at at x ≡ true = ap (begins_at at) same ∙ b in (
      ap (λ t. cond t (Some x) (find (begins_at at) rest)) here ∙ ap Some same,
      sym (ap (λ t. cond (not t) (x ∷ filter (elsewhere at) rest) (filter (elsewhere at) rest)) here ∙ none_behind at x rest (omega (arith, eqb-true x.at at here, all.0.0)) all.1),
    )
found at r (x ∷ rest) (suc i) all e b =
    let later = at_behind x r rest i all.1 e in
    let there : begins_at at x ≡ false = ne_eqb x.at at (omega (arith, later, eqb-true r.at at b, all.0.0)) in
    let more = found at r rest i all.2 e b in (
      ap (λ t. cond t (Some x) (find (begins_at at) rest)) there ∙ more.0,
      ap (λ z. x ∷ z) more.1 ∙ sym (ap (λ t. cond (not t) (x ∷ filter (elsewhere at) rest) (filter (elsewhere at) rest)) there),
    )

pub record Removed (at : ℕ) (rs : List Region) (r : Region) (new : List Region) : Type 0 where
  pub was : find (begins_at at) rs ≡ Some r
  pub left : new ≡ filter (λ s. not (begins_at at s)) rs
  pub kept : AreRegions new

-- taking out the place of a region that begins at the page
pub removed : (at : ℕ) (rs : List Region) (i : ℕ) (r : Region) (new : List Region) → AreRegions rs → IsSomeAnd (slice_get rs i) (λ s. IsTrue (begins_at at s)) → r ≡ get_or rs i r → new ≡ remove rs i
    → Removed at rs r new
removed at rs i r new all some read is = by (slice_get rs i) refl some
  where
    by : (o : Option Region) → slice_get rs i ≡ o → IsSomeAnd o (λ s. IsTrue (begins_at at s)) → Removed at rs r new
    by None e h = absurd h
    by (Some s) e h =
        let same : r ≡ s = read ∙ get_or_from_slice_get rs i s r e in
        let f = found at s rs i all e h in
        let left = is ∙ f.1 in
        record { was = f.0 ∙ ap Some (sym same); left = left; kept = subst AreRegions (sym left) (filter_keeps (λ x. not (begins_at at x)) rs all) }

-- putting a region that overlaps none into its place
pub added : (r : Region) (rs : List Region) (i : ℕ) (new : List Region) → IsRegion r → AreRegions rs → list_any (overlaps r) rs ≡ false → insert_region r rs ≡ insert rs i r → new ≡ insert rs i r → AreRegions new
added r rs i new ok all e place is = subst AreRegions (place ∙ sym is) (insert_keeps r rs ok all e)
