-- Regions that are put in and taken out: how many show a container, and that they stay ascending and apart.
use Rattle.std.proofs.Common.{◌≡◌, ℕ, suc, ◌+◌, ◌<◌, ◌≤◌, Bool, true, false, not, ◌&&◌, ◌||◌, if◌then◌else◌, ◌==◌, nat_lt, List, [], ◌∷◌, length, count_by, filter, find, Some, refl, sym, ap, ◌∙◌, arith, eqb-true}
use Rattle.std.specs.List.{All, list_any}
use Rattle.std.proofs.lemmas.Bool.Decides.{nat_tests}
use Rattle.std.proofs.lemmas.List.Elements.{All-cons, All-filter, All-head, All-nil, All-tail, All-weaker}
use Rattle.std.proofs.lemmas.List.Sums.{count_by-le-length, length-filter, sum_by-cons}
use Rattle.model_kernel.specs.base_types.declared.capabilities.Region.{Region}
use Rattle.model_kernel.specs.Soundness.{AreApart}
use Rattle.model_kernel.specs.Words.{insert_region, overlaps}
use Rattle.model_sound_steps.proofs.Lists.{none_second}

-- how many of the regions show y
abbrev pub shown : List Region → ℕ → ℕ
shown rs y = count_by (λ (r : Region). r.target == y) rs

pub shown_more : (r : Region) (rs : List Region) (y : ℕ) → shown (r ∷ rs) y ≡ (if r.target == y then 1 else 0) + shown rs y
shown_more r rs y = sum_by-cons (λ (r : Region). if r.target == y then 1 else 0) r rs

-- ONE MORE

pub shown_inserted : (r : Region) (rs : List Region) (y : ℕ) → shown (insert_region r rs) y ≡ (if r.target == y then 1 else 0) + shown rs y
shown_inserted r [] y = shown_more r [] y
shown_inserted r (s ∷ rs) y =
    elim (nat_lt r.at s.at) as (λ b. shown (if b then r ∷ s ∷ rs else s ∷ insert_region r rs) y ≡ (if r.target == y then 1 else 0) + shown (s ∷ rs) y) [
      | true ↦ shown_more r (s ∷ rs) y
      | false ↦
          let one = shown_more s (insert_region r rs) y in
          let two = shown_more s rs y in
          let rest = shown_inserted r rs y in
          omega (arith, one, two, rest)
    ]

pub all_inserted : (P : Region → Type 0) (r : Region) (rs : List Region) → P r → All P rs → All P (insert_region r rs)
all_inserted P r [] p all = All-cons P r [] p all
all_inserted P r (s ∷ rs) p all =
    elim (nat_lt r.at s.at) as (λ b. All P (if b then r ∷ s ∷ rs else s ∷ insert_region r rs)) [
      | true ↦ All-cons P r (s ∷ rs) p all
      | false ↦ All-cons P s (insert_region r rs) (All-head P s rs all) (all_inserted P r rs p (All-tail P s rs all))
    ]

pub length_inserted : (r : Region) (rs : List Region) → length (insert_region r rs) ≡ suc (length rs)
length_inserted r [] = refl
length_inserted r (s ∷ rs) =
    elim (nat_lt r.at s.at) as (λ b. length (if b then r ∷ s ∷ rs else s ∷ insert_region r rs) ≡ suc (length (s ∷ rs))) [
      | true ↦ refl
      | false ↦ ap suc (length_inserted r rs)
    ]

none_first : (p q : Bool) → (p || q) ≡ false → p ≡ false
none_first true q h = h
none_first false q h = refl

pub apart_inserted : (r : Region) (rs : List Region) → 1 ≤ r.count → All (λ (s : Region). 1 ≤ s.count) rs → list_any (overlaps r) rs ≡ false → AreApart rs → AreApart (insert_region r rs)
apart_inserted r [] one all clear h = (All-nil (λ (s : Region). r.at + r.count ≤ s.at), tt)
apart_inserted r (s ∷ rs) one all clear h =
    let some : 1 ≤ s.count = All-head (λ (s : Region). 1 ≤ s.count) s rs all in
    let off : (nat_lt r.at (s.at + s.count) && nat_lt s.at (r.at + r.count)) ≡ false = none_first (overlaps r s) (list_any (overlaps r) rs) clear in
    elim (nat_lt r.at s.at) as (λ b. nat_lt r.at s.at ≡ b → AreApart (if b then r ∷ s ∷ rs else s ∷ insert_region r rs)) [
      | true ↦ λ is.
          let end : r.at + r.count ≤ s.at = before r s one some is off in (
            All-cons (λ (t : Region). r.at + r.count ≤ t.at) s rs end (All-weaker (λ (t : Region). s.at + s.count ≤ t.at) (λ (t : Region). r.at + r.count ≤ t.at) (λ t le. omega arith) rs h.0),
            h,
          )
      | false ↦ λ is.
          let end : s.at + s.count ≤ r.at = behind r s one some is off in (
            all_inserted (λ (t : Region). s.at + s.count ≤ t.at) r rs end h.0,
            apart_inserted r rs one (All-tail (λ (s : Region). 1 ≤ s.count) s rs all) (none_second (overlaps r s) (list_any (overlaps r) rs) clear) h.1,
          )
    ] refl
  where
    before : (r s : Region) → 1 ≤ r.count → 1 ≤ s.count → nat_lt r.at s.at ≡ true → (nat_lt r.at (s.at + s.count) && nat_lt s.at (r.at + r.count)) ≡ false → r.at + r.count ≤ s.at
    before r s one some is off = grind (arith, nat_tests)

    behind : (r s : Region) → 1 ≤ r.count → 1 ≤ s.count → nat_lt r.at s.at ≡ false → (nat_lt r.at (s.at + s.count) && nat_lt s.at (r.at + r.count)) ≡ false → s.at + s.count ≤ r.at
    behind r s one some is off = grind (arith, nat_tests)

-- ONE LESS

-- the regions that don't begin at the page
abbrev pub without : ℕ → List Region → List Region
without at rs = filter (λ (s : Region). not (s.at == at)) rs

-- regions behind the page stay
all_behind : (at : ℕ) (rs : List Region) → All (λ (s : Region). at < s.at) rs → without at rs ≡ rs
all_behind at [] all = refl
all_behind at (r ∷ rs) all =
    let lt : at < r.at = All-head (λ (s : Region). at < s.at) r rs all in
    let no : (r.at == at) ≡ false = grind (arith, nat_tests) in
    let rest = all_behind at rs (All-tail (λ (s : Region). at < s.at) r rs all) in
    (λ i. if not (no i) then r ∷ without at rs else without at rs) ∙ ap (λ t. r ∷ t) rest

-- the found region alone is gone
pub shown_without : (at : ℕ) (rs : List Region) (r : Region) (y : ℕ) → All (λ (s : Region). 1 ≤ s.count) rs → AreApart rs → find (λ (s : Region). s.at == at) rs ≡ Some r
    → shown rs y ≡ (if r.target == y then 1 else 0) + shown (without at rs) y
shown_without at [] r y all h is = cc
shown_without at (s ∷ rs) r y all h is =
    elim (s.at == at) as (λ b. (s.at == at) ≡ b → (if b then Some s else find (λ (s : Region). s.at == at) rs) ≡ Some r → shown (s ∷ rs) y ≡ (if r.target == y then 1 else 0) + shown (if not b then s ∷ without at rs else without at rs) y) [
      | true ↦ λ e f.
          let here : s.at ≡ at = eqb-true s.at at e in
          let some : 1 ≤ s.count = All-head (λ (s : Region). 1 ≤ s.count) s rs all in
          let same : s ≡ r = cc in
          let stays : without at rs ≡ rs = all_behind at rs (All-weaker (λ (t : Region). s.at + s.count ≤ t.at) (λ (t : Region). at < t.at) (λ t le. omega arith) rs h.0) in
          shown_more s rs y ∙ (λ i. (if (same i).target == y then 1 else 0) + shown (sym stays i) y)
      | false ↦ λ e f.
          let one = shown_more s rs y in
          let two = shown_more s (without at rs) y in
          let rest = shown_without at rs r y (All-tail (λ (s : Region). 1 ≤ s.count) s rs all) h.1 f in
          omega (arith, one, two, rest)
    ] refl is

pub apart_without : (at : ℕ) (rs : List Region) → AreApart rs → AreApart (without at rs)
apart_without at [] h = tt
apart_without at (r ∷ rs) h =
    elim (not (r.at == at)) as (λ b. AreApart (if b then r ∷ without at rs else without at rs)) [
      | true ↦ (All-filter (λ (s : Region). not (s.at == at)) (λ (s : Region). r.at + r.count ≤ s.at) rs h.0, apart_without at rs h.1)
      | false ↦ apart_without at rs h.1
    ]

pub fewer_without : (at : ℕ) (rs : List Region) → length (without at rs) ≤ length rs
fewer_without at rs =
    let e = length-filter (λ (s : Region). not (s.at == at)) rs in
    let le = count_by-le-length (λ (s : Region). not (s.at == at)) rs in
    omega arith
