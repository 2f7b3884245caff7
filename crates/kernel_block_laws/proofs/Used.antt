-- The blocks in use, counted.
use Rattle.std.proofs.Common.{◌≡◌, ℕ, zero, suc, ◌+◌, ◌-◌, ◌≤◌, ◌<◌, Bool, true, false, not, ◌&&◌, ◌||◌, ◌==◌, cond, List, [], ◌∷◌, ◌++◌, count_by, length, refl, sym, ap, subst, ◌∙◌, arith, eqb-true, eq-eqb, inl, inr}
use Rattle.std.specs.Prelude.{Contains}
use Rattle.std.specs.List.{list_any, range_with_len}
use Rattle.std.proofs.lemmas.Bool.{and_parts, cases_lt, false≢true, or_cases, or_left, or_right}
use Rattle.std.proofs.lemmas.List.FromFn.{length-range_with_len}
use Rattle.base_types.specs.Edges.{upto}
use Rattle.kernel_invariant.specs.image_facts.Bodies.{blob_blocks}
use Rattle.kernel_invariant.specs.image_facts.Layout.{pool_at}
use Rattle.kernel_invariant.specs.store_books.Books.{Books, Logged, free_in, is_used, kept_in, kept_names, names}
use Rattle.kernel_invariant.specs.store_books.Owning.{AreOwned, NamesPage}
use Rattle.kernel_block_laws.specs.Room.{blocks_of, kept_blocks, named_in, working_blocks}
use Rattle.kernel_block_laws.proofs.Counting.{count_any, count_le, count_more, count_none, count_not, count_one, count_or, sum_le}

abbrev pool : Books → List ℕ
pool b = range_with_len pool_at (b.count - pool_at)

-- A TABLE

-- some place of the table names the block
abbrev table_names : List ℕ → ℕ → Bool
table_names t n = not (n == 0) && list_any (λ m. m == n) t

module _ (a k : ℕ) where
  pub blocks_count : (bs : List ℕ) → count_by (λ n. list_any (λ m. m == n) bs) (range_with_len a k) ≤ length bs
  blocks_count [] = (let none = none_any (range_with_len a k) in omega (arith, none))
    where
      none_any : (ns : List ℕ) → count_by (λ (n : ℕ). list_any (λ (m : ℕ). m == n) []) ns ≡ 0
      none_any ns = count_none ns
  blocks_count (m ∷ ms) =
      let split = count_or (λ (n : ℕ). m == n) (λ n. list_any (λ l. l == n) ms) (range_with_len a k) in
      let one = count_one m a k in
      let rest = blocks_count ms in
      omega (arith, split, one, rest)

  named_more : (m : ℕ) (ms : List ℕ) → named_in (m ∷ ms) ≡ cond (not (m == 0)) 1 0 + named_in ms
  named_more m ms = count_more (λ n. not (n == 0)) m ms

  table_one : (m : ℕ) (ms : List ℕ) (z : Bool) → (m == 0) ≡ z → count_by (table_names ms) (range_with_len a k) ≤ named_in ms → count_by (table_names (m ∷ ms)) (range_with_len a k) ≤ cond (not z) 1 0 + named_in ms
  table_one m ms true e rest =
      let less = count_le (table_names (m ∷ ms)) (table_names ms) (λ n h. skip n (and_parts (not (n == 0)) ((m == n) || list_any (λ l. l == n) ms) h)) (range_with_len a k) in
      omega (arith, less, rest)
    where
      skip : (n : ℕ) → (not (n == 0) ≡ true) × (((m == n) || list_any (λ l. l == n) ms) ≡ true) → table_names ms n ≡ true
      skip n (some, any) = elim (or_cases (m == n) (list_any (λ l. l == n) ms) any) as (λ _. table_names ms n ≡ true) [
        | inl is ↦ (let zero_is : n ≡ 0 = sym (eqb-true m n is) ∙ eqb-true m 0 e in absurd (false≢true (ap not (sym (eq-eqb n 0 zero_is)) ∙ some)))
        | inr any ↦ ap (λ t. t && list_any (λ l. l == n) ms) some ∙ any
      ]
  table_one m ms false e rest =
      let less = count_le (table_names (m ∷ ms)) (λ n. (m == n) || table_names ms n) (λ n h. keep n (and_parts (not (n == 0)) ((m == n) || list_any (λ l. l == n) ms) h)) (range_with_len a k) in
      let split = count_or (λ (n : ℕ). m == n) (table_names ms) (range_with_len a k) in
      let one = count_one m a k in
      omega (arith, less, split, one, rest)
    where
      keep : (n : ℕ) → (not (n == 0) ≡ true) × (((m == n) || list_any (λ l. l == n) ms) ≡ true) → ((m == n) || table_names ms n) ≡ true
      keep n (some, any) = elim (or_cases (m == n) (list_any (λ l. l == n) ms) any) as (λ _. ((m == n) || table_names ms n) ≡ true) [
        | inl is ↦ or_left (m == n) (table_names ms n) is
        | inr any ↦ or_right (m == n) (table_names ms n) (ap (λ t. t && list_any (λ l. l == n) ms) some ∙ any)
      ]

  table_count : (t : List ℕ) → count_by (table_names t) (range_with_len a k) ≤ named_in t
  table_count [] = (let less = count_le (table_names []) (λ _. false) (λ n h. (and_parts (not (n == 0)) false h).1) (range_with_len a k) in let none = count_none (range_with_len a k) in omega (arith, less, none))
  table_count (m ∷ ms) = (let one = table_one m ms (m == 0) refl (table_count ms) in let more = named_more m ms in omega (arith, one, more))

  -- the blocks that a record names
  record_count : (l : Logged) → count_by (λ n. names n l) (range_with_len a k) ≤ blocks_of l
  record_count l =
      let less = count_le (λ n. names n l) (λ n. list_any (λ m. m == n) (blob_blocks l.rec) || table_names l.table n) split (range_with_len a k) in
      let sum = count_or (λ n. list_any (λ m. m == n) (blob_blocks l.rec)) (table_names l.table) (range_with_len a k) in
      let one = blocks_count (blob_blocks l.rec) in
      let two = table_count l.table in
      omega (arith, less, sum, one, two)
    where
      by_parts : (n : ℕ) → (not (n == 0) ≡ true) × ((list_any (λ m. m == n) (blob_blocks l.rec) || list_any (λ m. m == n) l.table) ≡ true) → (list_any (λ m. m == n) (blob_blocks l.rec) || table_names l.table n) ≡ true
      by_parts n (some, any) = elim (or_cases (list_any (λ m. m == n) (blob_blocks l.rec)) (list_any (λ m. m == n) l.table) any) as (λ _. (list_any (λ m. m == n) (blob_blocks l.rec) || table_names l.table n) ≡ true) [
        | inl is ↦ or_left (list_any (λ m. m == n) (blob_blocks l.rec)) (table_names l.table n) is
        | inr any ↦ or_right (list_any (λ m. m == n) (blob_blocks l.rec)) (table_names l.table n) (ap (λ t. t && list_any (λ m. m == n) l.table) some ∙ any)
      ]

      split : (n : ℕ) → names n l ≡ true → (list_any (λ m. m == n) (blob_blocks l.rec) || table_names l.table n) ≡ true
      split n h = by_parts n (and_parts (not (n == 0)) (list_any (λ m. m == n) (blob_blocks l.rec) || list_any (λ m. m == n) l.table) h)

-- NUMBERS

any_more : (f : ℕ → Bool) (xs : List ℕ) (y : ℕ) → list_any f (xs ++ y ∷ []) ≡ (list_any f xs || f y)
any_more f [] y = last (f y)
  where
    last : (t : Bool) → (t || false) ≡ t
    last true = refl
    last false = refl
any_more f (x ∷ xs) y = ap (λ t. f x || t) (any_more f xs y) ∙ assoc (f x) (list_any f xs) (f y)
  where
    assoc : (p q r : Bool) → (p || (q || r)) ≡ ((p || q) || r)
    assoc true q r = refl
    assoc false q r = refl

any_upto : (f : ℕ → Bool) (x n : ℕ) → x < n → f x ≡ true → list_any f (upto n) ≡ true
any_upto f x zero lt h = absurd (omega (arith, lt))
any_upto f x (suc n) lt h = any_more f (upto n) n ∙ elim (cases_lt x n) as (λ _. (list_any f (upto n) || f n) ≡ true) [
  | inl low ↦ or_left (list_any f (upto n)) (f n) (any_upto f x n low h)
  | inr high ↦ (let is : x ≡ n = omega (arith, lt, high) in or_right (list_any f (upto n)) (f n) (ap f (sym is) ∙ h))
]

any_in : (t : List ℕ) (n : ℕ) → Contains t n → list_any (λ m. m == n) t ≡ true
any_in [] n (i, lt, at) = absurd (omega (arith, lt))
any_in (m ∷ ms) n (zero, lt, at) = or_left (m == n) (list_any (λ l. l == n) ms) (eq-eqb m n at)
any_in (m ∷ ms) n (suc i, lt, at) = or_right (m == n) (list_any (λ l. l == n) ms) (any_in ms n (i, omega (arith, lt), at))

-- THE BOOKS

module _ (b : Books) (tables : ℕ → List ℕ) (o : AreOwned b tables) (looked : b.found ≡ false) (low : (x : ℕ) → 64 ≤ x → tables x ≡ []) where
  held_named : (n : ℕ) → b.held n ≡ true → list_any (λ x. table_names (tables x) n) (upto 64) ≡ true
  held_named n held = by_table ((o.held n).0 held)
    where
      by_table : (x : ℕ) × NamesPage (tables x) n → list_any (λ x. table_names (tables x) n) (upto 64) ≡ true
      by_table (x, (some, within)) = elim (cases_lt x 64) as (λ _. list_any (λ x. table_names (tables x) n) (upto 64) ≡ true) [
        | inl lt ↦ any_upto (λ y. table_names (tables y) n) x 64 lt (named (n == 0) refl)
        | inr ge ↦ absurd (none (subst (λ (t : List ℕ). Contains t n) (low x ge) within))
      ]
        where
          none : Contains [] n → ⊥
          none (i, lt, at) = omega (arith, lt)

          named : (z : Bool) → (n == 0) ≡ z → (not z && list_any (λ m. m == n) (tables x)) ≡ true
          named true e = absurd (some (eqb-true n 0 e))
          named false e = any_in (tables x) n within

  used_count : count_by (is_used b) (pool b) ≤ kept_blocks b + working_blocks tables
  used_count =
      let less = count_le (is_used b) (λ n. list_any (λ x. table_names (tables x) n) (upto 64) || list_any (names n) (kept_in b)) in_use (pool b) in
      let split = count_or (λ n. list_any (λ x. table_names (tables x) n) (upto 64)) (λ n. list_any (names n) (kept_in b)) (pool b) in
      let held = count_any (λ x n. table_names (tables x) n) (pool b) (upto 64) in
      let tabled = sum_le (λ x. count_by (table_names (tables x)) (pool b)) (λ x. named_in (tables x)) (λ x. table_count pool_at (b.count - pool_at) (tables x)) (upto 64) in
      let kept = count_any (λ (l : Logged) n. names n l) (pool b) (kept_in b) in
      let recorded = sum_le (λ (l : Logged). count_by (λ n. names n l) (pool b)) blocks_of (λ l. record_count pool_at (b.count - pool_at) l) (kept_in b) in
      omega (arith, less, split, held, tabled, kept, recorded)
    where
      in_use : (n : ℕ) → is_used b n ≡ true → (list_any (λ x. table_names (tables x) n) (upto 64) || list_any (names n) (kept_in b)) ≡ true
      in_use n used = elim (or_cases (b.held n) (kept_names b n) used) as (λ _. (list_any (λ x. table_names (tables x) n) (upto 64) || list_any (names n) (kept_in b)) ≡ true) [
        | inl held ↦ or_left (list_any (λ x. table_names (tables x) n) (upto 64)) (list_any (names n) (kept_in b)) (held_named n held)
        | inr kept ↦ or_right (list_any (λ x. table_names (tables x) n) (upto 64)) (list_any (names n) (kept_in b)) (sym (ap (λ t. t || list_any (names n) (kept_in b)) looked) ∙ kept)
      ]

  pub free_bound : b.count ≤ pool_at + free_in b + kept_blocks b + working_blocks tables
  free_bound =
      let used = used_count in
      let both = count_not (is_used b) (pool b) in
      let len = length-range_with_len pool_at (b.count - pool_at) in
      omega (arith, used, both, len)
