-- How many records are kept.
use Rattle.std.proofs.Common.{◌≡◌, ◌⊎◌, inl, inr, ℕ, ◌+◌, ◌≤◌, Bool, true, false, ◌==◌, cond, List, [], ◌∷◌, ◌++◌, length, filter, refl, sym, ap, subst, ◌∙◌, arith, eq-eqb}
use Rattle.std.specs.Prelude.{count_by}
use Rattle.std.proofs.lemmas.Bool.{cases_eq, leb-true, le-leb}
use Rattle.std.proofs.lemmas.Bool.Decides.{nat_tests}
use Rattle.std.proofs.lemmas.List.{map-append}
use Rattle.std.proofs.lemmas.List.Elements.{filter-append}
use Rattle.std.proofs.lemmas.List.Sums.{sum_by-append, sum_by-cons}
use Rattle.base_types.specs.declared.records.Rec.{Rec}
use Rattle.kernel_record_facts.specs.image_meaning.Parts.{cut_of}
use Rattle.store_snapshots.specs.store_facts.Committed.{HasNewRecord}
use Rattle.store_snapshots.specs.store_facts.Shelves.{is_from, records_of}
use Rattle.kernel_block_laws.specs.store_books.Books.{Books, Logged, kept_in, logged_recs}
use Rattle.kernel_records.specs.Keeping.{KeepsOneMore}
use Rattle.kernel_records.proofs.Raising.{cut_rises}

-- HOW MANY PASS of what a filter keeps

module _ {X : Type 0} (p : X → Bool) where
  pub counts_cons : (x : X) (xs : List X) → count_by p (x ∷ xs) ≡ (cond (p x) 1 0) + count_by p xs
  counts_cons x xs = sum_by-cons (λ y. cond (p y) 1 0) x xs

  -- of a filter that keeps no others
  counts_fewer : (f g : X → Bool) → ((x : X) → g x ≡ true → f x ≡ true) → (xs : List X) → count_by p (filter g xs) ≤ count_by p (filter f xs)
  counts_fewer f g less [] = omega arith
  counts_fewer f g less (x ∷ xs) = by_tests (g x) (f x) (less x) (counts_fewer f g less xs)
    where
      by_tests : (kept was : Bool) → (kept ≡ true → was ≡ true) → count_by p (filter g xs) ≤ count_by p (filter f xs)
          → count_by p (cond kept (x ∷ filter g xs) (filter g xs)) ≤ count_by p (cond was (x ∷ filter f xs) (filter f xs))
      by_tests true true also le = let a = counts_cons x (filter g xs) in let b = counts_cons x (filter f xs) in omega (arith, a, b, le)
      by_tests true false also le = absurd (let clash : false ≡ true = also refl in cc clash)
      by_tests false true also le = let b = counts_cons x (filter f xs) in omega (arith, b, le)
      by_tests false false also le = le

  counts_some : (g : X → Bool) (xs : List X) → count_by p (filter g xs) ≤ count_by p xs
  counts_some g [] = omega arith
  counts_some g (x ∷ xs) = by_test (g x) (counts_some g xs)
    where
      by_test : (kept : Bool) → count_by p (filter g xs) ≤ count_by p xs → count_by p (cond kept (x ∷ filter g xs) (filter g xs)) ≤ count_by p (x ∷ xs)
      by_test true le = let a = counts_cons x (filter g xs) in let b = counts_cons x xs in omega (arith, a, b, le)
      by_test false le = let b = counts_cons x xs in omega (arith, b, le)

  -- one item behind
  counts_behind : (g : X → Bool) (xs : List X) (x : X) → count_by p (filter g (xs ++ x ∷ [])) ≤ count_by p (filter g xs) + cond (p x) 1 0
  counts_behind g xs x =
      let parted : count_by p (filter g (xs ++ x ∷ [])) ≡ count_by p (filter g xs) + count_by p (filter g (x ∷ [])) =
      ap (count_by p) (filter-append g xs (x ∷ [])) ∙ sum_by-append (λ y. cond (p y) 1 0) (filter g xs) (filter g (x ∷ [])) in
      let one = counts_some g (x ∷ []) in
      let single = counts_cons x [] in
      omega (arith, parted, one, single)

-- A LOG AND ITS KEPT RECORDS

abbrev cut_log : List Logged → ℕ → ℕ
cut_log ls = cut_of (logged_recs ls)

abbrev pub kept_log : List Logged → List Logged
kept_log ls = filter (is_from (cut_log ls)) ls

rises : (ls : List Logged) (k : Logged) (x : ℕ) → cut_log ls x ≤ cut_log (ls ++ k ∷ []) x
rises ls k x = subst (λ (recs : List Rec). cut_log ls x ≤ cut_of recs x) (sym (map-append (λ (l : Logged). l.rec) ls (k ∷ []))) (cut_rises (logged_recs ls) (k.rec ∷ []) x)

module _ (p : Logged → Bool) where
  -- a record behind the whole log
  one_more : (ls : List Logged) (k : Logged) → count_by p (kept_log (ls ++ k ∷ [])) ≤ count_by p (kept_log ls) + cond (p k) 1 0
  one_more ls k =
      let behind = counts_behind p (is_from (cut_log (ls ++ k ∷ []))) ls k in
      let fewer = counts_fewer p (is_from (cut_log ls)) (is_from (cut_log (ls ++ k ∷ []))) above ls in
      omega (arith, behind, fewer)
    where
      above : (l : Logged) → is_from (cut_log (ls ++ k ∷ [])) l ≡ true → is_from (cut_log ls) l ≡ true
      above l is =
          let now = leb-true (cut_log (ls ++ k ∷ []) l.rec.entity) l.rec.version is in
          let more = rises ls k l.rec.entity in
          le-leb (cut_log ls l.rec.entity) l.rec.version (omega (arith, now, more))

  -- and behind what is kept of it
  one_behind : (ks : List Logged) (k : Logged) → count_by p (kept_log (ks ++ k ∷ [])) ≤ count_by p ks + cond (p k) 1 0
  one_behind ks k =
      let behind = counts_behind p (is_from (cut_log (ks ++ k ∷ []))) ks k in
      let fewer = counts_some p (is_from (cut_log (ks ++ k ∷ []))) ks in
      omega (arith, behind, fewer)

  pub kept_more : (ls now : List Logged) (k : Logged) → (now ≡ ls ++ k ∷ []) ⊎ (now ≡ kept_log ls ++ k ∷ []) → count_by p (kept_log now) ≤ count_by p (kept_log ls) + cond (p k) 1 0
  kept_more ls now k (inl is) = subst (λ (ms : List Logged). count_by p (kept_log ms) ≤ count_by p (kept_log ls) + cond (p k) 1 0) (sym is) (one_more ls k)
  kept_more ls now k (inr is) = subst (λ (ms : List Logged). count_by p (kept_log ms) ≤ count_by p (kept_log ls) + cond (p k) 1 0) (sym is) (one_behind (kept_log ls) k)

all_count : {X : Type 0} (xs : List X) → count_by (λ (x : X). true) xs ≡ length xs
all_count [] = refl
all_count (x ∷ xs) = let a = counts_cons (λ y. true) x xs in let b = all_count xs in omega (arith, a, b)

abbrev pub own : Bool → ℕ
own b = cond b 1 0

by_turn : (x y : ℕ) → own (x == y) ≡ own (y == x)
by_turn x y = ap own (elim (cases_eq x y) as (λ _. (x == y) ≡ (y == x)) [
  | inl same ↦ eq-eqb x y same ∙ sym (eq-eqb y x (sym same))
  | inr apart ↦ grind (arith, nat_tests)
])

pub keeps_one_more : (entity version length : ℕ) (stamp table : List ℕ) (old new : Books) → HasNewRecord entity version length stamp table old new → KeepsOneMore entity old new
keeps_one_more entity version len stamp table old new h = record {
  each = λ y. subst (λ (n : ℕ). records_of y (kept_in new) ≤ records_of y (kept_in old) + n) (ap (λ (x : ℕ). own (x == y)) h.entity_is ∙ by_turn entity y)
      (kept_more (λ (l : Logged). l.rec.entity == y) old.logged new.logged (record { rec = h.rec; table = table }) h.log);
  all =
      let counts = kept_more (λ (l : Logged). true) old.logged new.logged (record { rec = h.rec; table = table }) h.log in
      let before = all_count (kept_in old) in
      let now = all_count (kept_in new) in
      omega (arith, counts, before, now);
}
