-- The kept records fit, as the log does.
use Rattle.std.proofs.Common.{◌≡◌, ℕ, suc, zero, ◌≤◌, ◌<◌, Bool, true, false, ◌&&◌, ◌||◌, ◌==◌, nat_lt, if◌then◌else◌, List, [], ◌∷◌, ◌++◌, take, Option, Some, None, refl, sym, ap, subst, ◌∙◌, arith, append_assoc, eqb-true, eq-eqb, length, ◌+◌, ◌*◌}
use Rattle.std.specs.Prelude.{filter, slice_get}
use Rattle.std.specs.List.{list_any}
use Rattle.std.proofs.lemmas.Bool.{false≢true, or_parts}
use Rattle.std.proofs.lemmas.Option.{none-some}
use Rattle.std.proofs.lemmas.List.{append-nil}
use Rattle.std.proofs.lemmas.List.Elements.{filter-append}
use Rattle.std.proofs.lemmas.List.Folds.{list_any-append}
use Rattle.base_types.specs.declared.records.Rec.{Rec}
use Rattle.std.proofs.lemmas.Option.{get_or_from_slice_get, slice_get_within}
use Rattle.std.proofs.lemmas.List.{get_or_past, length-map}
use Rattle.base_types.specs.Edges.{upto}
use Rattle.store_books.specs.model_kernel.Choices.{IsNarrow}
use Rattle.store_books.specs.model_kernel.Words.{first}
use Rattle.store_books.proofs.model_kernel_lemmas.Lists.{upto_len}
use Rattle.store_books.specs.model_cut_laws.Records.{is_rec_from, commits_of, recs_from}
use Rattle.store_books.specs.image_facts.Bodies.{body_block, number_at, record_in}
use Rattle.store_books.specs.image_facts.Checks.{is_epoch, last_version, unless_at}
use Rattle.store_books.specs.image_facts.Logs.{IsFitting, AreFitting}
use Rattle.store_books.proofs.image_facts_lemmas.LastVersions.{last_version-more}
use Rattle.store_commit.specs.Agreed.{KeptFitLaw}
use Rattle.std.proofs.Math.Bool.{or-false}

-- ONE TEST of a list that fails nowhere
first_third : (a b : Option ℕ) (t u : Bool) (rest : List (Option ℕ)) → first (a ∷ b ∷ unless_at t 8 ∷ rest) ≡ None → (t ≡ true → u ≡ true) → first (a ∷ b ∷ unless_at u 8 ∷ rest) ≡ None
first_third (Some x) b t u rest none more = none
first_third None (Some x) t u rest none more = none
first_third None None true u rest none more = subst (λ (v : Bool). first (None ∷ None ∷ unless_at v 8 ∷ rest) ≡ None) (sym (more refl)) none
first_third None None false true rest none more = absurd (none-some 8 (sym none))
first_third None None false false rest none more = none

lower_test : (e : Bool) (v w n : ℕ) → w ≤ v → (e && nat_lt v n) ≡ true → (e && nat_lt w n) ≡ true
lower_test true v w n le is = grind (arith, is, le)
lower_test false v w n le is = is

-- a body that fits behind records of which its entity's last version is no less
pub fits_lower : (count : ℕ) (before fewer : List Rec) (r : Rec) → ((x : ℕ) → last_version fewer x ≤ last_version before x) → IsFitting count before r → IsFitting count fewer r
fits_lower count before fewer r lower f =
    let body : List ℕ = body_block r in
    record {
      good = first_third _ _ (is_epoch (number_at 8 8 body) && nat_lt (last_version before (number_at 0 4 body)) (number_at 8 8 body)) _ _ f.good
          (lower_test (is_epoch (number_at 8 8 body)) (last_version before (number_at 0 4 body)) (last_version fewer (number_at 0 4 body)) (number_at 8 8 body) (lower (number_at 0 4 body)));
      back = f.back;
    }

-- LAST VERSIONS

abbrev has : ℕ → List Rec → Bool
has x rs = list_any (λ (s : Rec). s.entity == x) rs

-- the last version, from what stands behind and the first record
abbrev value : Bool → Bool → ℕ → ℕ → ℕ
value a b m v = if a then m else if b then v else 0

last_none : (rs : List Rec) (x : ℕ) → has x rs ≡ false → last_version rs x ≡ 0
last_none [] x none = refl
last_none (r ∷ rs) x none =
    let two = or_parts (r.entity == x) (has x rs) none in
    ap (λ (b : Bool). value b (r.entity == x) (last_version rs x) r.version) two.1 ∙ ap (λ (b : Bool). value false b (last_version rs x) r.version) two.0

module _ (test : Rec → Bool) where
  none_one : (r : Rec) (rs : List Rec) (x : ℕ) (b : Bool) → (r.entity == x) ≡ false → has x (filter test rs) ≡ false → has x (if b then r ∷ filter test rs else filter test rs) ≡ false
  none_one r rs x true e none = ap (λ (c : Bool). c || has x (filter test rs)) e ∙ none
  none_one r rs x false e none = none

  none_left : (rs : List Rec) (x : ℕ) → has x rs ≡ false → has x (filter test rs) ≡ false
  none_left [] x none = refl
  none_left (r ∷ rs) x none = (let two = or_parts (r.entity == x) (has x rs) none in none_one r rs x (test r) two.0 (none_left rs x two.1))

-- versions of one entity rise
abbrev pub AreRising : List Rec → Type 0
AreRising [] = Unit {0}
AreRising (r ∷ rs) = (has r.entity rs ≡ true → r.version < last_version rs r.entity) × AreRising rs

value_less : (a a' e : Bool) (m m' v : ℕ) → m' ≤ m → (a ≡ false → a' ≡ false) → (e ≡ true → a ≡ true → v < m) → value a' e m' v ≤ value a e m v
value_less true true e m m' v le none rise = le
value_less true false true m m' v le none rise = (let lt = rise refl refl in omega (arith, lt))
value_less true false false m m' v le none rise = omega arith
value_less false true e m m' v le none rise = absurd (false≢true (sym (none refl)))
value_less false false true m m' v le none rise = omega arith
value_less false false false m m' v le none rise = omega arith

behind_less : (a a' : Bool) (e : Bool) (m m' v : ℕ) → m' ≤ m → (a ≡ false → m' ≡ 0) → m' ≤ value a e m v
behind_less true a' e m m' v le none = le
behind_less false a' e m m' v le none = (let z = none refl in omega (arith, z))

module _ (test : Rec → Bool) where
  lowered_one : (r : Rec) (rs : List Rec) (x : ℕ) (b : Bool) → AreRising (r ∷ rs) → last_version (filter test rs) x ≤ last_version rs x
      → last_version (if b then r ∷ filter test rs else filter test rs) x ≤ last_version (r ∷ rs) x
  lowered_one r rs x true rising le =
      value_less (has x rs) (has x (filter test rs)) (r.entity == x) (last_version rs x) (last_version (filter test rs) x) r.version le (none_left test rs x)
      (λ e there. (let is : r.entity ≡ x = eqb-true r.entity x e in
      let lt : r.version < last_version rs r.entity = rising.0 (subst (λ (y : ℕ). has y rs ≡ true) (sym is) there) in
      subst (λ (y : ℕ). r.version < last_version rs y) is lt))
  lowered_one r rs x false rising le =
      behind_less (has x rs) (has x (filter test rs)) (r.entity == x) (last_version rs x) (last_version (filter test rs) x) r.version le (λ none. last_none (filter test rs) x (none_left test rs x none))

  -- filtering raises no last version
  pub lowered : (rs : List Rec) (x : ℕ) → AreRising rs → last_version (filter test rs) x ≤ last_version rs x
  lowered [] x rising = omega arith
  lowered (r ∷ rs) x rising = lowered_one r rs x (test r) rising (lowered rs x rising.1)

-- ONE RECORD MORE

has_more : (rs : List Rec) (r : Rec) (x : ℕ) → has x (rs ++ r ∷ []) ≡ (has x rs || (r.entity == x))
has_more rs r x = list_any-append (λ (s : Rec). s.entity == x) rs (r ∷ []) ∙ ap (λ (b : Bool). has x rs || b) (or-false (r.entity == x))

value_high : (a e : Bool) (m v n : ℕ) → (a ≡ false → m ≡ 0) → value a e m v < n → m < n
value_high true e m v n none lt = lt
value_high false true m v n none lt = (let z = none refl in omega (arith, z, lt))
value_high false false m v n none lt = (let z = none refl in omega (arith, z, lt))

first_high : (a : Bool) (m v n : ℕ) → (a ≡ true → v < m) → value a true m v < n → v < n
first_high true m v n rise lt = (let b = rise refl in omega (arith, b, lt))
first_high false m v n rise lt = lt

still_rises : (q r : Rec) (rs : List Rec) → (has q.entity rs ≡ true → q.version < last_version rs q.entity) → last_version (q ∷ rs) r.entity < r.version → (e : Bool) → (r.entity == q.entity) ≡ e
    → has q.entity (rs ++ r ∷ []) ≡ true → q.version < (if e then r.version else last_version rs q.entity)
still_rises q r rs rise lt true e there =
    let is : r.entity ≡ q.entity = eqb-true r.entity q.entity e in
    let at : value (has q.entity rs) (q.entity == q.entity) (last_version rs q.entity) q.version < r.version = subst (λ (y : ℕ). last_version (q ∷ rs) y < r.version) is lt in
    first_high (has q.entity rs) (last_version rs q.entity) q.version r.version rise
    (subst (λ (b : Bool). value (has q.entity rs) b (last_version rs q.entity) q.version < r.version) (eq-eqb q.entity q.entity refl) at)
still_rises q r rs rise lt false e there =
    rise (sym (or-false (has q.entity rs)) ∙ (sym (ap (λ (b : Bool). has q.entity rs || b) e) ∙ (sym (has_more rs r q.entity) ∙ there)))

pub rising_more : (rs : List Rec) (r : Rec) → AreRising rs → last_version rs r.entity < r.version → AreRising (rs ++ r ∷ [])
rising_more [] r rising lt = (λ there. absurd (false≢true there), tt)
rising_more (q ∷ rs) r rising lt = (
  λ there. subst (λ (n : ℕ). q.version < n) (sym (last_version-more rs r q.entity)) (still_rises q r rs rising.0 lt (r.entity == q.entity) refl there),
  rising_more rs r rising.1 (value_high (has r.entity rs) (q.entity == r.entity) (last_version rs r.entity) q.version r.version (last_none rs r.entity) lt),
)

-- a record that fits is above the last of its entity
third_holds : (a b : Option ℕ) (t : Bool) (rest : List (Option ℕ)) → first (a ∷ b ∷ unless_at t 8 ∷ rest) ≡ None → t ≡ true
third_holds (Some x) b t rest none = absurd (none-some x (sym none))
third_holds None (Some x) t rest none = absurd (none-some x (sym none))
third_holds None None true rest none = refl
third_holds None None false rest none = absurd (none-some 8 (sym none))

above_test : (e : Bool) (v n : ℕ) → (e && nat_lt v n) ≡ true → v < n
above_test true v n is = grind (arith, is)
above_test false v n is = absurd (false≢true is)

fits_above : (count : ℕ) (before : List Rec) (r : Rec) → IsFitting count before r → last_version before r.entity < r.version
unfolding record_in
fits_above count before r f =
    let body : List ℕ = body_block r in
    let lt = above_test (is_epoch (number_at 8 8 body)) (last_version before (number_at 0 4 body)) (number_at 8 8 body) (third_holds _ _ (is_epoch (number_at 8 8 body) && nat_lt (last_version before (number_at 0 4 body)) (number_at 8 8 body)) _ f.good) in
    subst (λ (s : Rec). last_version before s.entity < s.version) f.back lt

-- THE KEPT RECORDS FIT

module _ (count : ℕ) (test : Rec → Bool) where
  abbrev FitFrom : List Rec → List Rec → Type 0
  FitFrom before recs = (i : ℕ) (r : Rec) → slice_get recs i ≡ Some r → IsFitting count (before ++ take i recs) r

  kept_one : (before recs : List Rec) (q : Rec) (b : Bool) → test q ≡ b → IsFitting count before q → AreRising before → FitFrom (filter test (before ++ q ∷ [])) (filter test recs)
      → FitFrom (filter test before) (if b then q ∷ filter test recs else filter test recs)
  kept_one before recs q false e fits rising rest i r here =
      let same : filter test (before ++ q ∷ []) ≡ filter test before =
      filter-append test before (q ∷ []) ∙ (ap (λ (b : Bool). filter test before ++ (if b then q ∷ [] else [])) e ∙ append-nil (filter test before)) in
      subst (λ (l : List Rec). IsFitting count (l ++ take i (filter test recs)) r) same (rest i r here)
  kept_one before recs q true e fits rising rest zero r here =
      let is : q ≡ r = get_or_from_slice_get (q ∷ filter test recs) 0 r q here in
      let fewer : IsFitting count (filter test before) q = fits_lower count before (filter test before) q (λ x. lowered test before x rising) fits in
      subst (λ (s : Rec). IsFitting count (filter test before ++ []) s) is (subst (λ (l : List Rec). IsFitting count l q) (sym (append-nil (filter test before))) fewer)
  kept_one before recs q true e fits rising rest (suc i) r here =
      let same : filter test (before ++ q ∷ []) ≡ filter test before ++ q ∷ [] =
      filter-append test before (q ∷ []) ∙ ap (λ (b : Bool). filter test before ++ (if b then q ∷ [] else [])) e in
      subst (λ (l : List Rec). IsFitting count l r) (append_assoc (filter test before) (q ∷ []) (take i (filter test recs)))
      (subst (λ (l : List Rec). IsFitting count (l ++ take i (filter test recs)) r) same (rest i r here))

  kept_from : (before recs : List Rec) → AreRising before → FitFrom before recs → FitFrom (filter test before) (filter test recs)
  kept_from before [] rising fit i r here = absurd (let lt = slice_get_within [] i r here in omega (arith, lt))
  kept_from before (q ∷ recs) rising fit i r here =
      let fits : IsFitting count before q = subst (λ (l : List Rec). IsFitting count l q) (append-nil before) (fit 0 q refl) in
      kept_one before recs q (test q) refl fits rising
      (kept_from (before ++ q ∷ []) recs (rising_more before q rising (fits_above count before q fits))
      (λ j s there. subst (λ (l : List Rec). IsFitting count l s) (sym (append_assoc before (q ∷ []) (take j recs))) (fit (suc j) s there)))
      i r here

-- those at or above a cut fit where the log does
pub kept_fit : KeptFitLaw
kept_fit count cut recs fit = kept_from count (is_rec_from cut) [] recs tt fit

-- ONE RECORD MORE FITS

module _ (count : ℕ) (r : Rec) where
  more_from : (before recs : List Rec) → ((i : ℕ) (q : Rec) → slice_get recs i ≡ Some q → IsFitting count (before ++ take i recs) q) → IsFitting count (before ++ recs) r
      → (i : ℕ) (q : Rec) → slice_get (recs ++ r ∷ []) i ≡ Some q → IsFitting count (before ++ take i (recs ++ r ∷ [])) q
  more_from before [] fit one zero q here = subst (λ (s : Rec). IsFitting count (before ++ []) s) (get_or_from_slice_get (r ∷ []) 0 q r here) one
  more_from before [] fit one (suc i) q here = absurd (let lt = slice_get_within [] i q here in omega (arith, lt))
  more_from before (p ∷ recs) fit one zero q here = fit 0 q here
  more_from before (p ∷ recs) fit one (suc i) q here =
      subst (λ (l : List Rec). IsFitting count l q) (append_assoc before (p ∷ []) (take i (recs ++ r ∷ [])))
      (more_from (before ++ p ∷ []) recs (λ j s there. subst (λ (l : List Rec). IsFitting count l s) (sym (append_assoc before (p ∷ []) (take j recs))) (fit (suc j) s there))
      (subst (λ (l : List Rec). IsFitting count l r) (sym (append_assoc before (p ∷ []) recs)) one) i q here)

-- a record that fits behind a list makes a longer list that fits
pub fit_more : (count : ℕ) (recs : List Rec) (r : Rec) → AreFitting count recs → IsFitting count recs r → AreFitting count (recs ++ r ∷ [])
fit_more count recs r fit one = more_from count r [] recs fit one

rising_from : (count : ℕ) (before recs : List Rec) → AreRising before → ((i : ℕ) (q : Rec) → slice_get recs i ≡ Some q → IsFitting count (before ++ take i recs) q) → AreRising (before ++ recs)
rising_from count before [] rising fit = subst AreRising (sym (append-nil before)) rising
rising_from count before (q ∷ recs) rising fit =
    let fits : IsFitting count before q = subst (λ (l : List Rec). IsFitting count l q) (append-nil before) (fit 0 q refl) in
    subst AreRising (append_assoc before (q ∷ []) recs)
    (rising_from count (before ++ q ∷ []) recs (rising_more before q rising (fits_above count before q fits))
    (λ j s there. subst (λ (l : List Rec). IsFitting count l s) (sym (append_assoc before (q ∷ []) (take j recs))) (fit (suc j) s there)))

-- what fits behind the log fits behind those of it at or above a choice
pub fits_kept : (count : ℕ) (cut : ℕ → ℕ) (recs : List Rec) (r : Rec) → AreFitting count recs → IsFitting count recs r → IsFitting count (recs_from cut recs) r
fits_kept count cut recs r fit one = fits_lower count recs (recs_from cut recs) r (λ x. lowered (is_rec_from cut) recs x (rising_from count [] recs tt fit)) one

-- stamps of records that fit have 64 components
stamp_len : (count : ℕ) (before : List Rec) (r : Rec) → IsFitting count before r → length r.stamp ≡ 64
unfolding record_in
stamp_len count before r f = sym (ap (λ (s : Rec). length s.stamp) f.back) ∙ (length-map (upto 64) (λ y. number_at (16 + 8 * y) 8 (body_block r)) ∙ upto_len 64)

narrow_from : (count : ℕ) (before recs : List Rec) → ((i : ℕ) (q : Rec) → slice_get recs i ≡ Some q → IsFitting count (before ++ take i recs) q) → IsNarrow (commits_of recs)
narrow_from count before [] fit = tt
narrow_from count before (q ∷ recs) fit = (
  λ y far. get_or_past q.stamp y 0 (let e = stamp_len count (before ++ []) q (fit 0 q refl) in omega (arith, e, far)),
  narrow_from count (before ++ q ∷ []) recs (λ j s there. subst (λ (l : List Rec). IsFitting count l s) (sym (append_assoc before (q ∷ []) (take j recs))) (fit (suc j) s there)),
)

pub narrow_fit : (count : ℕ) (recs : List Rec) → AreFitting count recs → IsNarrow (commits_of recs)
narrow_fit count recs fit = narrow_from count [] recs fit
