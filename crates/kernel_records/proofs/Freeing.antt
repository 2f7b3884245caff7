-- How many blocks a record takes that is made, and which blocks kept records name behind it.
use Rattle.std.proofs.Common.{◌≡◌, ◌⊎◌, inl, inr, ℕ, ◌+◌, ◌-◌, ◌≤◌, Bool, true, false, not, ◌||◌, ◌==◌, List, [], ◌∷◌, ◌++◌, refl, sym, ap, ◌∙◌, arith, eqb-true, eq-eqb}
use Rattle.std.specs.Prelude.{count_by}
use Rattle.std.specs.List.{list_any, range_with_len}
use Rattle.std.proofs.lemmas.Bool.{and_parts, false≢true, or_cases, or_left, or_right}
use Rattle.std.proofs.lemmas.List.{length-take}
use Rattle.std.proofs.lemmas.Map.Views.{Contains-from_any}
use Rattle.kernel_block_laws.specs.image_facts.Bodies.{blob_blocks, blocks_for}
use Rattle.kernel_block_laws.specs.image_facts.Layout.{pool_at}
use Rattle.store_snapshots.specs.store_facts.Committed.{HasNewRecord}
use Rattle.kernel_block_laws.specs.store_books.Books.{AreHeldPages, Books, Logged, free_in, is_used, kept_in, kept_names, names}
use Rattle.kernel_block_laws.proofs.Counting.{count_le, count_or}
use Rattle.kernel_block_laws.proofs.Used.{blocks_count}
use Rattle.kernel_records.proofs.Fewer.{counts_cons, kept_log, kept_more, own}
use Rattle.kernel_block_laws.proofs.store_books_lemmas.Owners.{place_in}

-- SOME ITEM PASSES exactly where one is counted
module _ {X : Type 0} (p : X → Bool) where
  some_count : (xs : List X) → list_any p xs ≡ true → 1 ≤ count_by p xs
  some_count [] h = absurd (false≢true h)
  some_count (x ∷ xs) h = by_test (p x) h (counts_cons p x xs) (some_count xs)
    where
      by_test : (t : Bool) → (t || list_any p xs) ≡ true → count_by p (x ∷ xs) ≡ own t + count_by p xs → (list_any p xs ≡ true → 1 ≤ count_by p xs) → 1 ≤ count_by p (x ∷ xs)
      by_test true h more rest = omega (arith, more)
      by_test false h more rest = let some = rest h in omega (arith, more, some)

  none_count : (xs : List X) → list_any p xs ≡ false → count_by p xs ≡ 0
  none_count [] h = refl
  none_count (x ∷ xs) h = by_test (p x) h (counts_cons p x xs) (none_count xs)
    where
      by_test : (t : Bool) → (t || list_any p xs) ≡ false → count_by p (x ∷ xs) ≡ own t + count_by p xs → (list_any p xs ≡ false → count_by p xs ≡ 0) → count_by p (x ∷ xs) ≡ 0
      by_test true h more rest = absurd (false≢true (sym h))
      by_test false h more rest = let none = rest h in omega (arith, more, none)

-- THE BLOCKS THAT KEPT RECORDS NAME were named before, or the new record names them

abbrev any_names : ℕ → List Logged → Bool
any_names n ls = list_any (names n) ls

log_names : (ls now : List Logged) (k : Logged) (n : ℕ) → (now ≡ ls ++ k ∷ []) ⊎ (now ≡ kept_log ls ++ k ∷ []) → any_names n (kept_log now) ≡ true
    → (any_names n (kept_log ls) || names n k) ≡ true
log_names ls now k n log named = by_tests (any_names n (kept_log ls)) (names n k) refl refl
  where
    by_tests : (was is : Bool) → any_names n (kept_log ls) ≡ was → names n k ≡ is → (was || is) ≡ true
    by_tests true is e f = refl
    by_tests false true e f = refl
    by_tests false false e f =
        let more = kept_more (names n) ls now k log in
        let some = some_count (names n) (kept_log now) named in
        let none = none_count (names n) (kept_log ls) e in
        let not_it : own (names n k) ≡ 0 = ap own f in
        absurd (omega (arith, more, some, none, not_it))

pub names_then : (old new : Books) (k : Logged) → (new.logged ≡ old.logged ++ k ∷ []) ⊎ (new.logged ≡ kept_in old ++ k ∷ []) → new.found ≡ old.found
    → (n : ℕ) → kept_names new n ≡ true → (kept_names old n || names n k) ≡ true
names_then old new k log same n named = by_found old.found refl
  where
    by_found : (f : Bool) → old.found ≡ f → (kept_names old n || names n k) ≡ true
    by_found true e = or_left (kept_names old n) (names n k) (or_left old.found (any_names n (kept_in old)) e)
    by_found false e =
        let there : any_names n (kept_in new) ≡ true = sym (ap (λ t. t || any_names n (kept_in new)) (same ∙ e)) ∙ named in
        ap (λ t. (t || any_names n (kept_in old)) || names n k) e ∙ log_names old.logged new.logged k n log there

-- A RECORD TAKES the blocks of its blob alone, where those of its pages are held
module _ (old new : Books) (entity version len : ℕ) (stamp table : List ℕ) (h : HasNewRecord entity version len stamp table old new) (held : AreHeldPages old.held table) where
  abbrev k : Logged
  k = record { rec = h.rec; table = table }

  abbrev in_blob : ℕ → Bool
  in_blob n = list_any (λ m. m == n) (blob_blocks h.rec)

  in_table : (n : ℕ) → not (n == 0) ≡ true → list_any (λ m. m == n) table ≡ true → old.held n ≡ true
  in_table n some there =
      let p = place_in table n (Contains-from_any {eq = λ q m. m == q} (λ x y is. sym (eqb-true y x is)) n table there) in
      ap old.held (sym p.1) ∙ held p.0 (λ zero_is. false≢true (sym (ap not (eq-eqb n 0 (sym p.1 ∙ zero_is))) ∙ some))

  named_used : (n : ℕ) → names n k ≡ true → (is_used old n || in_blob n) ≡ true
  named_used n is =
      let both = and_parts (not (n == 0)) (in_blob n || list_any (λ m. m == n) table) is in
      elim (or_cases (in_blob n) (list_any (λ m. m == n) table) both.1) as (λ _. (is_used old n || in_blob n) ≡ true) [
        | inl blob ↦ or_right (is_used old n) (in_blob n) blob
        | inr there ↦ or_left (is_used old n) (in_blob n) (or_left (old.held n) (kept_names old n) (in_table n both.0 there))
      ]

  used_then : (n : ℕ) → is_used new n ≡ true → (is_used old n || in_blob n) ≡ true
  used_then n used = elim (or_cases (new.held n) (kept_names new n) used) as (λ _. (is_used old n || in_blob n) ≡ true) [
    | inl is ↦ or_left (is_used old n) (in_blob n) (or_left (old.held n) (kept_names old n) (ap (λ (f : ℕ → Bool). f n) (sym h.same_held) ∙ is))
    | inr is ↦
        (elim (or_cases (kept_names old n) (names n k) (names_then old new k h.log h.same_found n is)) as (λ _. (is_used old n || in_blob n) ≡ true) [
          | inl was ↦ or_left (is_used old n) (in_blob n) (or_right (old.held n) (kept_names old n) was)
          | inr named ↦ named_used n named
        ])
  ]

  abbrev pool : List ℕ
  pool = range_with_len pool_at (old.count - pool_at)

  pub record_frees : free_in old ≤ free_in new + blocks_for len
  record_frees =
      let less = count_le (λ n. not (is_used old n)) (λ n. not (is_used new n) || in_blob n) (λ n. by_tests (is_used old n) (is_used new n) (in_blob n) (used_then n)) pool in
      let split = count_or (λ n. not (is_used new n)) in_blob pool in
      let blob = blocks_count pool_at (old.count - pool_at) (blob_blocks h.rec) in
      let few = length-take (blocks_for h.rec.length) h.rec.blocks in
      let long : blocks_for h.rec.length ≡ blocks_for len = ap blocks_for h.length_is in
      let now : count_by (λ n. not (is_used new n)) pool ≡ free_in new = ap (λ c. count_by (λ n. not (is_used new n)) (range_with_len pool_at (c - pool_at))) (sym h.same_count) in
      omega (arith, less, split, blob, few, long, now)
    where
      by_tests : (o u b : Bool) → (u ≡ true → (o || b) ≡ true) → not o ≡ true → (not u || b) ≡ true
      by_tests true u b used is = absurd (false≢true is)
      by_tests false false b used is = refl
      by_tests false true b used is = used refl
