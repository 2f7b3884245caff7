-- The free blocks of a range, where a test says which are free.
use Rattle.std.proofs.Common.{◌≡◌, ◌≢◌, ℕ, zero, suc, ◌+◌, ◌<◌, ◌≤◌, Bool, true, false, cond, eqb, ltb, List, [], ◌∷◌, length, get_or, filter, Contains, refl, sym, ap, ◌∙◌, inl, inr, arith}
use Rattle.std.proofs.lemmas.Bool.Decides.{nat_tests}
use Rattle.std.proofs.lemmas.Bool.{cases_eq}
use Rattle.std.specs.List.{range_with_len}
use Rattle.data_blocks.specs.Pool.{with_block, without_block}

abbrev pub passing : (ℕ → Bool) → ℕ → ℕ → List ℕ
passing p from n = filter p (range_with_len from n)

-- tests that agree from there on keep the same
agree : (p q : ℕ → Bool) (from n : ℕ) → ((k : ℕ) → from ≤ k → p k ≡ q k) → passing p from n ≡ passing q from n
agree p q from zero same = refl
agree p q from (suc n) same =
    let here = same from (omega arith) in
    let rest = agree p q (from + 1) n (λ k low. same k (omega arith)) in
    rw (here, rest)

-- the lowest that passes is the first, and the others follow
pub passing_lowest : (p q : ℕ → Bool) (from n block : ℕ) → from ≤ block → block < from + n → p block ≡ true → q block ≡ false → ((k : ℕ) → k < block → p k ≡ false) → ((k : ℕ) → k ≢ block → q k ≡ p k) → passing p from n ≡ block ∷ passing q from n
passing_lowest p q from zero block low high free taken lowest others = absurd (omega arith)
passing_lowest p q from (suc n) block low high free taken lowest others =
    elim (cases_eq from block) [
      | inl same ↦
          let yes : p from ≡ true = ap p same ∙ free in
          let no : q from ≡ false = ap q same ∙ taken in
          let rest = agree p q (from + 1) n (λ k above. sym (others k (λ e. omega arith))) in
          rw (yes, no, rest) (ap (λ b. b ∷ passing q (from + 1) n) same)
      | inr differs ↦
          let no : p from ≡ false = lowest from (omega arith) in
          let no' : q from ≡ false = others from differs ∙ no in
          rw (no, no') (passing_lowest p q (from + 1) n block (omega arith) (omega arith) free taken lowest others)
    ]

-- below all that pass it comes first
pub with_block_first : (q : ℕ → Bool) (from n block : ℕ) → block < from → with_block block (passing q from n) ≡ block ∷ passing q from n
with_block_first q from zero block below = refl
with_block_first q from (suc n) block below = by_test (q from) refl (with_block_first q (from + 1) n block (omega arith))
  where
    by_test : (b : Bool) → q from ≡ b → with_block block (passing q (from + 1) n) ≡ block ∷ passing q (from + 1) n → with_block block (passing q from (suc n)) ≡ block ∷ passing q from (suc n)
    by_test true e rest = rw e (let less : ltb block from ≡ true = grind (arith, nat_tests) in rw less)
    by_test false e rest = rw e rest

-- one more that passes stands in its place
pub passing_with : (p q : ℕ → Bool) (from n block : ℕ) → from ≤ block → block < from + n → p block ≡ false → q block ≡ true → ((k : ℕ) → k ≢ block → q k ≡ p k) → passing q from n ≡ with_block block (passing p from n)
passing_with p q from zero block low high taken free others = absurd (omega arith)
passing_with p q from (suc n) block low high taken free others =
    elim (cases_eq from block) [
      | inl same ↦
          let yes : q from ≡ true = ap q same ∙ free in
          let no : p from ≡ false = ap p same ∙ taken in
          let rest = agree q p (from + 1) n (λ k above. others k (λ e. omega arith)) in
          rw (yes, no, rest) (ap (λ b. b ∷ passing p (from + 1) n) same ∙ sym (with_block_first p (from + 1) n block (omega arith)))
      | inr differs ↦ by_test differs (p from) refl (passing_with p q (from + 1) n block (omega arith) (omega arith) taken free others)
    ]
  where
    by_test : from ≢ block → (b : Bool) → p from ≡ b → passing q (from + 1) n ≡ with_block block (passing p (from + 1) n) → passing q from (suc n) ≡ with_block block (passing p from (suc n))
    by_test differs true e rest =
        let yes : q from ≡ true = others from differs ∙ e in
        let not_less : ltb block from ≡ false = grind (arith, nat_tests) in
        rw (yes, e, not_less, rest)
    by_test differs false e rest =
        let no : q from ≡ false = others from differs ∙ e in
        rw (no, e) rest

pub length-with_block : (block : ℕ) (xs : List ℕ) → length (with_block block xs) ≡ length xs + 1
length-with_block block [] = refl
length-with_block block (x ∷ xs) = by_test (ltb block x) refl (length-with_block block xs)
  where
    by_test : (b : Bool) → ltb block x ≡ b → length (with_block block xs) ≡ length xs + 1 → length (with_block block (x ∷ xs)) ≡ suc (length xs) + 1
    by_test true e rest = rw e (omega arith)
    by_test false e rest = rw e (omega arith)

-- all but one of those that pass
pub passing_without : (p q : ℕ → Bool) (block : ℕ) → q block ≡ false → ((k : ℕ) → k ≢ block → q k ≡ p k) → (xs : List ℕ) → filter q xs ≡ without_block block (filter p xs)
passing_without p q block taken others [] = refl
passing_without p q block taken others (x ∷ xs) =
    let rest = passing_without p q block taken others xs in
    elim (cases_eq x block) [
      | inl same ↦
          let no : q x ≡ false = ap q same ∙ taken in
          let is : eqb x block ≡ true = grind (arith, nat_tests) in
          rw no (rest ∙ dropped is (p x) refl)
      | inr differs ↦
          let apart : eqb x block ≡ false = grind (arith, nat_tests) in
          rw (others x differs) (kept apart rest (p x) refl)
    ]
  where
    dropped : eqb x block ≡ true → (b : Bool) → p x ≡ b → without_block block (filter p xs) ≡ without_block block (filter p (x ∷ xs))
    dropped is true e = rw (e, is)
    dropped is false e = rw e

    kept : eqb x block ≡ false → filter q xs ≡ without_block block (filter p xs) → (b : Bool) → p x ≡ b → cond (p x) (x ∷ filter q xs) (filter q xs) ≡ without_block block (filter p (x ∷ xs))
    kept apart rest true e = rw (e, apart, rest)
    kept apart rest false e = rw e rest

-- where all pass, it is the whole range
pub passing_all : (p : ℕ → Bool) (from n : ℕ) → ((k : ℕ) → from ≤ k → k < from + n → p k ≡ true) → passing p from n ≡ range_with_len from n
passing_all p from zero all = refl
passing_all p from (suc n) all = rw (all from (omega arith) (omega arith), passing_all p (from + 1) n (λ k low high. all k (omega arith) (omega arith)))

-- where none passes, it is empty
pub passing_none : (p : ℕ → Bool) (from n : ℕ) → ((k : ℕ) → p k ≡ false) → passing p from n ≡ []
passing_none p from zero none = refl
passing_none p from (suc n) none = rw (none from, passing_none p (from + 1) n none)

pub length-passing : (p : ℕ → Bool) (from n : ℕ) → length (passing p from n) ≤ n
length-passing p from zero = omega arith
length-passing p from (suc n) = by_test (p from) refl (length-passing p (from + 1) n)
  where
    by_test : (b : Bool) → p from ≡ b → length (passing p (from + 1) n) ≤ n → length (passing p from (suc n)) ≤ suc n
    by_test true e rest = rw e (omega arith)
    by_test false e rest = rw e (omega arith)

-- a number of the range passes
pub record Passes (p : ℕ → Bool) (from n x : ℕ) : Type 0 where
  pub low : from ≤ x
  pub high : x < from + n
  pub passes : p x ≡ true

-- each that passes is in the range
pub passing_within : (p : ℕ → Bool) (from n i d : ℕ) → i < length (passing p from n) → Passes p from n (get_or (passing p from n) i d)
passing_within p from zero i d within = absurd (omega arith)
passing_within p from (suc n) i d within = by_test (λ j there. passing_within p (from + 1) n j d there) (p from) refl i within
  where
    deeper : (x : ℕ) → Passes p (from + 1) n x → Passes p from (suc n) x
    deeper x rest = record { low = omega (arith, rest.low); high = omega (arith, rest.high); passes = rest.passes }

    by_test : ((j : ℕ) → j < length (passing p (from + 1) n) → Passes p (from + 1) n (get_or (passing p (from + 1) n) j d)) → (b : Bool) → p from ≡ b → (i : ℕ) → i < length (passing p from (suc n)) → Passes p from (suc n) (get_or (passing p from (suc n)) i d)
    by_test rest true e zero within = rw e (record { low = omega arith; high = omega arith; passes = e })
    by_test rest true e (suc i) within = let w = rw e at within in rw e (deeper _ (rest i (omega arith)))
    by_test rest false e i within = let w = rw e at within in rw e (deeper _ (rest i w))

-- those that pass ascend
pub passing_ascends : (p : ℕ → Bool) (from n k : ℕ) → k + 1 < length (passing p from n) → get_or (passing p from n) k 0 < get_or (passing p from n) (k + 1) 0
passing_ascends p from zero k within = absurd (omega arith)
passing_ascends p from (suc n) k within = by_test (λ j there. passing_ascends p (from + 1) n j there) (p from) refl k within
  where
    first : (0 < length (passing p (from + 1) n)) → from < get_or (passing p (from + 1) n) 0 0
    first some = omega (arith, (passing_within p (from + 1) n 0 0 some).low)

    by_test : ((j : ℕ) → j + 1 < length (passing p (from + 1) n) → get_or (passing p (from + 1) n) j 0 < get_or (passing p (from + 1) n) (j + 1) 0) → (b : Bool) → p from ≡ b → (k : ℕ) → k + 1 < length (passing p from (suc n)) → get_or (passing p from (suc n)) k 0 < get_or (passing p from (suc n)) (k + 1) 0
    by_test rest true e zero within = let w = rw e at within in rw e (first (omega arith))
    by_test rest true e (suc k) within =
        let w = rw e at within in
        let next : suc k + 1 ≡ suc (k + 1) = omega arith in
        rw (e, next) (rest k (omega arith))
    by_test rest false e k within = let w = rw e at within in rw e (rest k w)

-- a number of the range that passes is among them
pub passing_contains : (p : ℕ → Bool) (from n block : ℕ) → from ≤ block → block < from + n → p block ≡ true → Contains (passing p from n) block
passing_contains p from zero block low high free = absurd (omega arith)
passing_contains p from (suc n) block low high free =
    elim (cases_eq from block) [
      | inl same ↦ let yes : p from ≡ true = ap p same ∙ free in rw yes (0, omega arith, same)
      | inr differs ↦ by_test (p from) refl (passing_contains p (from + 1) n block (omega arith) (omega arith) free)
    ]
  where
    by_test : (b : Bool) → p from ≡ b → Contains (passing p (from + 1) n) block → Contains (passing p from (suc n)) block
    by_test true e there = rw e (suc there.0, omega (arith, there.1), there.2)
    by_test false e there = rw e there
