-- The newest records of a log, and what is kept where these rest on one another.
use Rattle.std.proofs.Common.{◌≡◌, ◌⊎◌, inl, inr, ℕ, zero, suc, ◌+◌, ◌*◌, ◌<◌, ◌≤◌, Bool, true, false, ◌==◌, cond, List, [], ◌∷◌, ◌++◌, length, filter, get_or, refl, sym, ap, subst, ◌∙◌, arith, eqb-true, eq-eqb, nat_lt}
use Rattle.std.specs.Prelude.{All, AllPairs, Any, count_by, slice_index, if◌then◌else◌}
use Rattle.std.specs.List.{AllByRecursion}
use Rattle.std.proofs.Math.Nat.{suc-mul}
use Rattle.std.proofs.lemmas.Bool.{cases_eq, cases_lt, leb-true, le-leb, lt-ltb}
use Rattle.std.proofs.lemmas.Bool.Decides.{nat_tests}
use Rattle.std.proofs.lemmas.List.{get_or_append_left, length_push, map-append}
use Rattle.std.proofs.lemmas.List.Elements.{All-filter, All-from_recursion, All-push, All-weaker, recursion_from_All}
use Rattle.std.proofs.lemmas.List.Kept.{AllPairs-filter}
use Rattle.std.proofs.lemmas.List.Quantifiers.{Any-push, all_pairs_push}
use Rattle.base_types.specs.declared.records.Rec.{Rec}
use Rattle.cell_wish_laws.specs.model_cut_laws.Agreeing.{nothing}
use Rattle.cell_wish_laws.specs.model_cut_laws.Records.{commits_of, is_rec_from}
use Rattle.page_store.specs.model_kernel.Choices.{Among, IsBelow}
use Rattle.page_store.specs.model_kernel.Words.{put}
use Rattle.kernel_record_facts.specs.image_meaning.Parts.{cut_of}
use Rattle.store_snapshots.specs.log_facts.Logs.{IsOlder}
use Rattle.store_snapshots.specs.store_facts.Committed.{HasNewRecord}
use Rattle.store_snapshots.specs.store_facts.Shelves.{is_from, records_of}
use Rattle.kernel_block_laws.specs.store_books.Books.{Books, Logged, cut_in, kept_in, logged_recs, recs_in}
use Rattle.kernel_records.specs.Keeping.{HasNewest, KeepsNewest}
use Rattle.kernel_records.proofs.Fewer.{counts_cons, own}
use Rattle.kernel_records.proofs.Raising.{greatest_above, greatest_closed, narrowed, narrowed_high, narrowed_low, narrows}

-- LISTS

shifted : {X : Type 0} (P : X → Type 0) (x : X) (xs : List X) → Any P xs → Any P (x ∷ xs)
shifted P x xs (k, y, low, at, is) = (suc k, y, omega (arith, low), at, is)

-- a filter keeps what passes
kept_any : {X : Type 0} (test : X → Bool) (P : X → Type 0) → ((x : X) → P x → test x ≡ true) → (xs : List X) → Any P xs → Any P (filter test xs)
kept_any {X} test P pass xs (k, y, low, at, is) = go xs k low (subst P (sym at) is)
  where
    go : (ys : List X) (i : ℕ) → i < length ys → P (get_or ys i y) → Any P (filter test ys)
    go [] i short holds = absurd (omega (arith, short))
    go (x ∷ ys) zero short holds = subst (λ (b : Bool). Any P (cond b (x ∷ filter test ys) (filter test ys))) (sym (pass x holds)) (zero, x, omega arith, refl, holds)
    go (x ∷ ys) (suc i) short holds = by_test (test x) (go ys i (omega (arith, short)) holds)
      where
        by_test : (b : Bool) → Any P (filter test ys) → Any P (cond b (x ∷ filter test ys) (filter test ys))
        by_test true rest = shifted P x (filter test ys) rest
        by_test false rest = rest

recs_kept : (cut : ℕ → ℕ) (ls : List Logged) → logged_recs (filter (is_from cut) ls) ≡ filter (is_rec_from cut) (logged_recs ls)
recs_kept cut [] = refl
recs_kept cut (l ∷ ls) = by_test (is_from cut l) (recs_kept cut ls)
  where
    by_test : (b : Bool) → logged_recs (filter (is_from cut) ls) ≡ filter (is_rec_from cut) (logged_recs ls)
        → logged_recs (cond b (l ∷ filter (is_from cut) ls) (filter (is_from cut) ls)) ≡ cond b (l.rec ∷ filter (is_rec_from cut) (logged_recs ls)) (filter (is_rec_from cut) (logged_recs ls))
    by_test true rest = ap (λ (rs : List Rec). l.rec ∷ rs) rest
    by_test false rest = rest

-- NEWEST RECORDS as a record comes

put_same : {A : Type 0} (f : ℕ → A) (k : ℕ) (v : A) (x : ℕ) → x ≡ k → put f k v x ≡ v
put_same f k v x same = ap (λ (b : Bool). if b then v else f x) (eq-eqb x k same)

put_other : {A : Type 0} (f : ℕ → A) (k : ℕ) (v : A) (x : ℕ) → (x ≡ k → ⊥) → put f k v x ≡ f x
put_other f k v x apart = ap (λ (b : Bool). if b then v else f x) test
  where
    test : (x == k) ≡ false
    test = grind (arith, nat_tests)

module _ (n : ℕ → ℕ) (stamps : ℕ → List ℕ) where
  -- no cut is above them
  pub cut_low : (recs : List Rec) → All (λ (r : Rec). r.version ≤ n r.entity) recs → (x : ℕ) → cut_of recs x ≤ n x
  cut_low recs most x = elim (greatest_closed nothing (commits_of recs) x) as (λ _. cut_of recs x ≤ n x) [
    | inl none ↦ omega (arith, none)
    | inr some ↦ among recs (recursion_from_All (λ (r : Rec). r.version ≤ n r.entity) recs most) some
  ]
    where
      among : (rs : List Rec) → AllByRecursion (λ (r : Rec). r.version ≤ n r.entity) rs → Among (narrows (commits_of rs)) (λ c. (c.entity ≡ x) × (c.version ≡ cut_of recs x) × IsBelow c.stamp (cut_of recs)) → cut_of recs x ≤ n x
      among [] most some = absurd some
      among (r ∷ rs) most (inl is) = let le : r.version ≤ n x = subst (λ (y : ℕ). r.version ≤ n y) is.0 most.0 in let same = is.1 in omega (arith, le, same)
      among (r ∷ rs) most (inr some) = among rs most.1 some

  newest_stay : (recs : List Rec) (cut : ℕ → ℕ) → ((x : ℕ) → cut x ≤ n x) → HasNewest n stamps recs → HasNewest n stamps (filter (is_rec_from cut) recs)
  newest_stay recs cut low h = record {
    most = All-filter (is_rec_from cut) (λ (r : Rec). r.version ≤ n r.entity) recs h.most;
    newest = λ x. elim (h.newest x) as (λ _. (n x ≡ 0) ⊎ Any (λ (r : Rec). (r.entity ≡ x) × (r.version ≡ n x) × (r.stamp ≡ stamps x)) (filter (is_rec_from cut) recs)) [
      | inl none ↦ inl none
      | inr some ↦ inr (kept_any (is_rec_from cut) (λ (r : Rec). (r.entity ≡ x) × (r.version ≡ n x) × (r.stamp ≡ stamps x)) (passes x) recs some)
    ];
    ascending = AllPairs-filter IsOlder (is_rec_from cut) recs h.ascending;
    numbers = All-filter (is_rec_from cut) (λ (r : Rec). r.entity < 64) recs h.numbers;
  }
    where
      passes : (x : ℕ) (r : Rec) → (r.entity ≡ x) × (r.version ≡ n x) × (r.stamp ≡ stamps x) → is_rec_from cut r ≡ true
      passes x r is = le-leb (cut r.entity) r.version (let le : cut r.entity ≤ n x = subst (λ (y : ℕ). cut y ≤ n x) (sym is.0) (low x) in let same = is.1 in omega (arith, le, same))

  abbrev Is : Rec → ℕ → Rec → Type 0
  Is k x r = (r.entity ≡ x) × (r.version ≡ put n k.entity k.version x) × (r.stamp ≡ put stamps k.entity k.stamp x)

  newest_push : (recs : List Rec) (k : Rec) → HasNewest n stamps recs → n k.entity < k.version → k.entity < 64 → HasNewest (put n k.entity k.version) (put stamps k.entity k.stamp) (recs ++ k ∷ [])
  newest_push recs k h newer low = record {
    most = All-push (λ (r : Rec). r.version ≤ put n k.entity k.version r.entity) recs k
        (All-weaker (λ (r : Rec). r.version ≤ n r.entity) (λ (r : Rec). r.version ≤ put n k.entity k.version r.entity) rises recs h.most)
        (let same = put_same n k.entity k.version k.entity refl in omega (arith, same));
    newest = λ x. elim (cases_eq x k.entity) as (λ _. (put n k.entity k.version x ≡ 0) ⊎ Any (Is k x) (recs ++ k ∷ [])) [
      | inl same ↦ inr (Any-push (Is k x) recs k (sym same, sym (put_same n k.entity k.version x same), sym (put_same stamps k.entity k.stamp x same)))
      | inr apart ↦ elim (h.newest x) as (λ _. (put n k.entity k.version x ≡ 0) ⊎ Any (Is k x) (recs ++ k ∷ [])) [
        | inl none ↦ inl (put_other n k.entity k.version x apart ∙ none)
        | inr some ↦ inr (before x apart some)
      ]
    ];
    ascending = all_pairs_push IsOlder recs k h.ascending (λ i d short same.
        let le : (get_or recs i d).version ≤ n k.entity = subst (λ (y : ℕ). (get_or recs i d).version ≤ n y) same (h.most i d short) in
        omega (arith, le, newer));
    numbers = All-push (λ (r : Rec). r.entity < 64) recs k h.numbers low;
  }
    where
      rises : (r : Rec) → r.version ≤ n r.entity → r.version ≤ put n k.entity k.version r.entity
      rises r le = elim (cases_eq r.entity k.entity) as (λ _. r.version ≤ put n k.entity k.version r.entity) [
        | inl same ↦ (let now = put_same n k.entity k.version r.entity same in let was : r.version ≤ n k.entity = subst (λ (y : ℕ). r.version ≤ n y) same le in omega (arith, now, was, newer))
        | inr apart ↦ (let now = put_other n k.entity k.version r.entity apart in omega (arith, now, le))
      ]

      longer : (i : ℕ) → i < length recs → i < length (recs ++ k ∷ [])
      longer i short = let more = length_push recs k in omega (arith, short, more)

      before : (x : ℕ) → (x ≡ k.entity → ⊥) → Any (λ (r : Rec). (r.entity ≡ x) × (r.version ≡ n x) × (r.stamp ≡ stamps x)) recs → Any (Is k x) (recs ++ k ∷ [])
      before x apart (i, r, short, at, is) = (i, r, longer i short, get_or_append_left recs (k ∷ []) r i short ∙ at, (is.0, is.1 ∙ sym (put_other n k.entity k.version x apart), is.2 ∙ sym (put_other stamps k.entity k.stamp x apart)))

pub newest_goes_on : (n : ℕ → ℕ) (stamps : ℕ → List ℕ) (entity version length : ℕ) (stamp table : List ℕ) (old new : Books) → HasNewest n stamps (recs_in old)
    → HasNewRecord entity version length stamp table old new → n entity < version → entity < 64 → HasNewest (put n entity version) (put stamps entity stamp) (recs_in new)
newest_goes_on n stamps entity version len stamp table old new h made newer low =
    subst (λ (s : List ℕ). HasNewest (put n entity version) (put stamps entity s) (recs_in new)) made.stamp_is
    (subst (λ (v : ℕ). HasNewest (put n entity v) (put stamps entity made.rec.stamp) (recs_in new)) made.version_is
    (subst (λ (e : ℕ). HasNewest (put n e made.rec.version) (put stamps e made.rec.stamp) (recs_in new)) made.entity_is (by_log made.log)))
  where
    l : Logged
    l = record { rec = made.rec; table = table }

    over : n made.rec.entity < made.rec.version
    over = let e : n made.rec.entity ≡ n entity = ap n made.entity_is in let v = made.version_is in omega (arith, e, v, newer)

    number : made.rec.entity < 64
    number = let e = made.entity_is in omega (arith, e, low)

    kept : HasNewest n stamps (logged_recs (kept_in old))
    kept = subst (HasNewest n stamps) (sym (recs_kept (cut_in old) old.logged)) (newest_stay n stamps (recs_in old) (cut_in old) (cut_low n stamps (recs_in old) h.most) h)

    behind : (ls : List Logged) → new.logged ≡ ls ++ l ∷ [] → HasNewest n stamps (logged_recs ls) → HasNewest (put n made.rec.entity made.rec.version) (put stamps made.rec.entity made.rec.stamp) (recs_in new)
    behind ls is so_far = subst (HasNewest (put n made.rec.entity made.rec.version) (put stamps made.rec.entity made.rec.stamp))
        (sym (ap logged_recs is ∙ map-append (λ (k : Logged). k.rec) ls (l ∷ []))) (newest_push n stamps (logged_recs ls) made.rec so_far over number)

    by_log : (new.logged ≡ old.logged ++ l ∷ []) ⊎ (new.logged ≡ kept_in old ++ l ∷ []) → HasNewest (put n made.rec.entity made.rec.version) (put stamps made.rec.entity made.rec.stamp) (recs_in new)
    by_log (inl is) = behind old.logged is h
    by_log (inr is) = behind (kept_in old) is kept

-- WHERE NEWEST RECORDS REST ON ONE ANOTHER

-- n is a closed choice
closed_on : (n : ℕ → ℕ) (recs : List Rec) (x : ℕ) → Any (λ (r : Rec). (r.entity ≡ x) × (r.version ≡ n x) × ((y : ℕ) → slice_index r.stamp y ≤ n y)) recs
    → Among (narrows (commits_of recs)) (λ c. (c.entity ≡ x) × (c.version ≡ n x) × IsBelow c.stamp n)
closed_on n recs x (k, r, low, at, is) = among recs k low (subst (λ (s : Rec). (s.entity ≡ x) × (s.version ≡ n x) × ((y : ℕ) → slice_index s.stamp y ≤ n y)) (sym at) is)
  where
    below : (stamp : List ℕ) → ((y : ℕ) → slice_index stamp y ≤ n y) → IsBelow (narrowed (slice_index stamp)) n
    below stamp le y = elim (cases_lt y 64) as (λ _. narrowed (slice_index stamp) y ≤ n y) [
      | inl low ↦ (let e = narrowed_low (slice_index stamp) y low in let h = le y in omega (arith, e, h))
      | inr high ↦ (let e = narrowed_high (slice_index stamp) y high in omega (arith, e))
    ]

    among : (rs : List Rec) (i : ℕ) → i < length rs → (get_or rs i r).entity ≡ x × (get_or rs i r).version ≡ n x × ((y : ℕ) → slice_index (get_or rs i r).stamp y ≤ n y)
        → Among (narrows (commits_of rs)) (λ c. (c.entity ≡ x) × (c.version ≡ n x) × IsBelow c.stamp n)
    among [] i low is = absurd (omega (arith, low))
    among (s ∷ rs) zero low is = inl (is.0, is.1, below s.stamp is.2)
    among (s ∷ rs) (suc i) low is = inr (among rs i (omega (arith, low)) is)

newest_below : (n : ℕ → ℕ) (stamps : ℕ → List ℕ) (recs : List Rec) → HasNewest n stamps recs → ((x y : ℕ) → 0 < n x → slice_index (stamps x) y ≤ n y) → (x : ℕ) → n x ≤ cut_of recs x
newest_below n stamps recs h rests = greatest_above nothing (commits_of recs) n (λ x. by_newest x (cases_eq (n x) 0) (h.newest x))
  where
    below : (x : ℕ) → 0 < n x → Any (λ (r : Rec). (r.entity ≡ x) × (r.version ≡ n x) × (r.stamp ≡ stamps x)) recs
        → Any (λ (r : Rec). (r.entity ≡ x) × (r.version ≡ n x) × ((y : ℕ) → slice_index r.stamp y ≤ n y)) recs
    below x some (k, r, low, at, is) = (k, r, low, at, (is.0, is.1, λ y. subst (λ (stamp : List ℕ). slice_index stamp y ≤ n y) (sym is.2) (rests x y some)))

    positive : (m : ℕ) → (m ≡ 0 → ⊥) → 0 < m
    positive zero some = absurd (some refl)
    positive (suc m) some = omega arith

    by_newest : (x : ℕ) → (n x ≡ 0) ⊎ (n x ≡ 0 → ⊥) → (n x ≡ 0) ⊎ Any (λ (r : Rec). (r.entity ≡ x) × (r.version ≡ n x) × (r.stamp ≡ stamps x)) recs
        → (n x ≡ 0) ⊎ Among (narrows (commits_of recs)) (λ c. (c.entity ≡ x) × (c.version ≡ n x) × IsBelow c.stamp n)
    by_newest x (inl none) newest = inl none
    by_newest x (inr some) (inl none) = inl none
    by_newest x (inr some) (inr newest) = inr (closed_on n recs x (below x (positive (n x) some) newest))

module _ (n cut : ℕ → ℕ) (low : (x : ℕ) → n x ≤ cut x) where
  -- what is kept is the newest
  newest_kept : (ls : List Logged) → AllByRecursion (λ (r : Rec). r.version ≤ n r.entity) (logged_recs ls) → AllByRecursion (λ (l : Logged). l.rec.version ≡ n l.rec.entity) (filter (is_from cut) ls)
  newest_kept [] most = tt
  newest_kept (l ∷ ls) most = by_test (newest_kept ls most.1) (is_from cut l) refl
    where
      by_test : AllByRecursion (λ (k : Logged). k.rec.version ≡ n k.rec.entity) (filter (is_from cut) ls) → (kept : Bool) → is_from cut l ≡ kept → AllByRecursion (λ (k : Logged). k.rec.version ≡ n k.rec.entity) (cond kept (l ∷ filter (is_from cut) ls) (filter (is_from cut) ls))
      by_test rest true is = (
        (let from = leb-true (cut l.rec.entity) l.rec.version is in let le = low l.rec.entity in let ge = most.0 in omega (arith, from, le, ge)),
        rest,
      )
      by_test rest false is = rest

  -- and none of an entity follows another
  none_later : (y : ℕ) (ls : List Logged) → AllByRecursion (λ (r : Rec). r.version ≤ n r.entity) (logged_recs ls) → AllByRecursion (λ (r : Rec). r.entity ≡ y → n y < r.version) (logged_recs ls)
      → records_of y (filter (is_from cut) ls) ≡ 0
  none_later y [] most later = refl
  none_later y (l ∷ ls) most later = by_test (none_later y ls most.1 later.1) (is_from cut l)
    where
      other : (l.rec.entity == y) ≡ false
      other = elim (cases_eq l.rec.entity y) as (λ _. (l.rec.entity == y) ≡ false) [
        | inl same ↦ absurd (let above = later.0 same in let le : l.rec.version ≤ n y = subst (λ (x : ℕ). l.rec.version ≤ n x) same most.0 in omega (arith, above, le))
        | inr apart ↦ grind (arith, nat_tests)
      ]

      by_test : records_of y (filter (is_from cut) ls) ≡ 0 → (kept : Bool) → records_of y (cond kept (l ∷ filter (is_from cut) ls) (filter (is_from cut) ls)) ≡ 0
      by_test rest true =
          let counts = counts_cons (λ (k : Logged). k.rec.entity == y) l (filter (is_from cut) ls) ∙ ap (λ (b : Bool). cond b 1 0 + records_of y (filter (is_from cut) ls)) other in
          omega (arith, counts, rest)
      by_test rest false = rest

  one_each : (y : ℕ) (ls : List Logged) → AllByRecursion (λ (r : Rec). r.version ≤ n r.entity) (logged_recs ls) → AllPairs IsOlder (logged_recs ls) → records_of y (filter (is_from cut) ls) ≤ 1
  one_each y [] most older = omega arith
  one_each y (l ∷ ls) most older = by_tests (one_each y ls most.1 (λ i j d lt short. older (suc i) (suc j) d (omega (arith, lt)) (omega (arith, short)))) (is_from cut l) (l.rec.entity == y) refl refl
    where
      more : count_by (λ (k : Logged). k.rec.entity == y) (l ∷ filter (is_from cut) ls) ≡ cond (l.rec.entity == y) 1 0 + records_of y (filter (is_from cut) ls)
      more = counts_cons (λ (k : Logged). k.rec.entity == y) l (filter (is_from cut) ls)

      after : is_from cut l ≡ true → l.rec.entity ≡ y → records_of y (filter (is_from cut) ls) ≡ 0
      after from same = none_later y ls most.1 (recursion_from_All (λ (r : Rec). r.entity ≡ y → n y < r.version) (logged_recs ls) (λ k d short is.
          let above : l.rec.version < (get_or (logged_recs ls) k d).version = older zero (suc k) d (omega arith) (omega (arith, short)) (same ∙ sym is) in
          let at = leb-true (cut l.rec.entity) l.rec.version from in
          let le : n y ≤ cut l.rec.entity = subst (λ (x : ℕ). n x ≤ cut l.rec.entity) same (low l.rec.entity) in
          omega (arith, above, at, le)))

      by_tests : records_of y (filter (is_from cut) ls) ≤ 1 → (kept is_own : Bool) → is_from cut l ≡ kept → (l.rec.entity == y) ≡ is_own → records_of y (cond kept (l ∷ filter (is_from cut) ls) (filter (is_from cut) ls)) ≤ 1
      by_tests rest false is_own from is = rest
      by_tests rest true false from is = let counts = more ∙ ap (λ (b : Bool). cond b 1 0 + records_of y (filter (is_from cut) ls)) is in omega (arith, counts, rest)
      by_tests rest true true from is =
          let counts = more ∙ ap (λ (b : Bool). cond b 1 0 + records_of y (filter (is_from cut) ls)) is in
          let none = after from (eqb-true l.rec.entity y is) in
          omega (arith, counts, none)

pub keeps_newest : (n : ℕ → ℕ) (stamps : ℕ → List ℕ) (b : Books) → HasNewest n stamps (recs_in b) → ((x y : ℕ) → 0 < n x → slice_index (stamps x) y ≤ n y) → KeepsNewest n b
keeps_newest n stamps b h rests =
    let most = recursion_from_All (λ (r : Rec). r.version ≤ n r.entity) (recs_in b) h.most in
    let low = newest_below n stamps (recs_in b) h rests in
    record {
      versions = All-from_recursion (λ (l : Logged). l.rec.version ≡ n l.rec.entity) (kept_in b) (newest_kept n (cut_in b) low b.logged most);
      each = λ y. one_each n (cut_in b) low y b.logged most h.ascending;
    }

-- HOW MANY ARE KEPT, entity by entity

abbrev below : ℕ → List Logged → ℕ
below n ls = count_by (λ (l : Logged). nat_lt l.rec.entity n) ls

more_below : (n : ℕ) (ls : List Logged) → below (suc n) ls ≡ below n ls + records_of n ls
more_below n [] = refl
more_below n (l ∷ ls) =
    let here = counts_cons (λ (k : Logged). nat_lt k.rec.entity (suc n)) l ls in
    let under = counts_cons (λ (k : Logged). nat_lt k.rec.entity n) l ls in
    let at = counts_cons (λ (k : Logged). k.rec.entity == n) l ls in
    let one = split l.rec.entity in
    let rest = more_below n ls in
    omega (arith, here, under, at, one, rest)
  where
    split : (e : ℕ) → cond (nat_lt e (suc n)) 1 0 ≡ (cond (nat_lt e n) 1 0) + cond (e == n) 1 0
    split e = elim (cases_lt e n) as (λ _. cond (nat_lt e (suc n)) 1 0 ≡ (cond (nat_lt e n) 1 0) + cond (e == n) 1 0) [
      | inl low ↦ grind (arith, nat_tests)
      | inr high ↦ grind (arith, nat_tests)
    ]

few_below : (most : ℕ) (ls : List Logged) → ((y : ℕ) → records_of y ls ≤ most) → (n : ℕ) → below n ls ≤ n * most
few_below most ls few zero = let n = none ls in omega (arith, n)
  where
    none_less : (e : ℕ) → nat_lt e 0 ≡ false
    none_less e = grind (arith, nat_tests)

    none : (ks : List Logged) → below zero ks ≤ 0
    none [] = omega arith
    none (k ∷ ks) =
        let here = counts_cons (λ (l : Logged). nat_lt l.rec.entity 0) k ks in
        let out : own (nat_lt k.rec.entity 0) ≡ 0 = ap own (none_less k.rec.entity) in
        let rest = none ks in
        omega (arith, here, out, rest)
few_below most ls few (suc n) =
    let more = more_below n ls in
    let rest = few_below most ls few n in
    let one = few n in
    let times = suc-mul n most in
    omega (arith, more, rest, one, times)

all_below : (ls : List Logged) → AllByRecursion (λ (l : Logged). l.rec.entity < 64) ls → below 64 ls ≡ length ls
all_below [] low = refl
all_below (l ∷ ls) low =
    let here = counts_cons (λ (k : Logged). nat_lt k.rec.entity 64) l ls in
    let test : nat_lt l.rec.entity 64 ≡ true = lt-ltb l.rec.entity 64 low.0 in
    let one : own (nat_lt l.rec.entity 64) ≡ 1 = ap own test in
    let rest = all_below ls low.1 in
    omega (arith, here, one, rest)

pub few_kept : (n : ℕ → ℕ) (stamps : ℕ → List ℕ) (most : ℕ) (b : Books) → HasNewest n stamps (recs_in b) → ((y : ℕ) → records_of y (kept_in b) ≤ most) → length (kept_in b) ≤ 64 * most
few_kept n stamps most b h few =
    let low = recursion_from_All (λ (l : Logged). l.rec.entity < 64) (kept_in b) (All-filter (is_from (cut_in b)) (λ (l : Logged). l.rec.entity < 64) b.logged
    (All-from_recursion (λ (l : Logged). l.rec.entity < 64) b.logged (each b.logged (recursion_from_All (λ (r : Rec). r.entity < 64) (recs_in b) h.numbers)))) in
    let all = all_below (kept_in b) low in
    let bound = few_below most (kept_in b) few 64 in
    omega (arith, all, bound)
  where
    each : (ls : List Logged) → AllByRecursion (λ (r : Rec). r.entity < 64) (logged_recs ls) → AllByRecursion (λ (l : Logged). l.rec.entity < 64) ls
    each [] low = tt
    each (l ∷ ls) low = (low.0, each ls low.1)
