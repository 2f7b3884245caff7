-- The first byte at which no spelling goes on: there is one at most, and none where the bytes are a spelling.
use Rattle.std.proofs.Common.{◌≡◌, zero, suc, ◌<◌, ◌≤◌, inl, inr, ℕ, ◌+◌, ◌-◌, List, [], ◌++◌, length, take, drop, sym, ap, subst, ◌∙◌, arith, append_assoc, length-append}
use Rattle.std.proofs.lemmas.Bool.{cases_lt}
use Rattle.std.proofs.lemmas.List.{append-nil, length-drop, length-take, take-append-drop}
use Rattle.std.proofs.Math.Seq.{take-add}
use Rattle.blob_grammar.specs.Laws.{IsPrefixFree}
use Rattle.blob_grammar.specs.Places.{Begins, GoesPast, IsBadPlace}

module _ (Spelled : List ℕ → Type 0) where
  -- what is behind a front
  abbrev behind : ℕ → ℕ → List ℕ → List ℕ
  behind m n bytes = take n (drop m bytes)

  -- the front of what begins a spelling begins one
  shorter : (bytes : List ℕ) (m n : ℕ) → Begins Spelled (take (m + n) bytes) → Begins Spelled (take m bytes)
  shorter bytes m n (rest, whole) =
      (behind m n bytes ++ rest, subst Spelled (ap (λ (l : List ℕ). l ++ rest) (take-add m n bytes) ∙ append_assoc (take m bytes) (behind m n bytes) rest) whole)

  less : (bytes : List ℕ) (p q : ℕ) → p < q → IsBadPlace Spelled bytes p → IsBadPlace Spelled bytes q → ⊥
  less bytes p q lt here there =
      let is : q ≡ (p + 1) + (q - (p + 1)) = omega (arith, lt) in
      here.ends (let w = there.within in omega (arith, lt, w)) (shorter bytes (p + 1) (q - (p + 1)) (subst (λ n. Begins Spelled (take n bytes)) is there.begins))

  pub one_place : (bytes : List ℕ) (p q : ℕ) → IsBadPlace Spelled bytes p → IsBadPlace Spelled bytes q → p ≡ q
  one_place bytes p q here there = elim (cases_lt p q) as (λ _. p ≡ q) [
    | inl lt ↦ absurd (less bytes p q lt here there)
    | inr ge ↦ elim (cases_lt q p) as (λ _. p ≡ q) [ inl lt ↦ absurd (less bytes q p lt there here) | inr le ↦ omega (arith, ge, le) ]
  ]

  begins_whole : (bytes : List ℕ) (n : ℕ) → Spelled bytes → Begins Spelled (take n bytes)
  begins_whole bytes n whole = (drop n bytes, subst Spelled (sym (take-append-drop n bytes)) whole)

  pub none_good : (bytes : List ℕ) (place : ℕ) → Spelled bytes → IsBadPlace Spelled bytes place → ⊥
  none_good bytes place whole bad = elim (cases_lt place (length bytes)) as (λ _. ⊥) [
    | inl lt ↦ bad.ends lt (begins_whole bytes (place + 1) whole)
    | inr ge ↦ bad.cut_off (let w = bad.within in omega (arith, ge, w)) whole
  ]

  pub past_bad : IsPrefixFree Spelled → (bytes : List ℕ) (place : ℕ) → GoesPast Spelled bytes place → IsBadPlace Spelled bytes place
  past_bad free bytes place past = record {
    within = (let lt = past.past in omega (arith, lt));
    begins = ([], subst Spelled (sym (append-nil (take place bytes))) past.whole);
    ends = λ lt (rest, whole).
        let next : List ℕ = behind place 1 bytes ++ rest in
        let is : take (place + 1) bytes ++ rest ≡ take place bytes ++ next = ap (λ (l : List ℕ). l ++ rest) (take-add place 1 bytes) ∙ append_assoc (take place bytes) (behind place 1 bytes) rest in
        let none : next ≡ [] = free (take place bytes) next past.whole (subst Spelled is whole) in
        let short = length-append (behind place 1 bytes) rest in
        let gone : length next ≡ 0 = ap (λ (l : List ℕ). length l) none in
        let one = length-take 1 (drop place bytes) in
        let left = length-drop place bytes in
        omega (arith, short, gone, one, left, lt);
    cut_off = λ end. absurd (let lt = past.past in omega (arith, end, lt));
  }

-- What isn't a spelling has a bad place. Which one it is takes a reader; that there is none can't be.
module _ (Spelled : List ℕ → Type 0) (bytes : List ℕ) (some : (whole : List ℕ) × Spelled whole) (bad : (place : ℕ) → IsBadPlace Spelled bytes place → ⊥) where
  each_begins : (n : ℕ) → n ≤ length bytes → (Begins Spelled (take n bytes) → ⊥) → ⊥
  each_begins zero low none = none some
  each_begins (suc n) low none = each_begins n (omega (arith, low)) (λ begins. bad n (record {
    within = omega (arith, low);
    begins = begins;
    ends = λ lt here. none (subst (λ m. Begins Spelled (take m bytes)) (let e : n + 1 ≡ suc n = omega arith in e) here);
    cut_off = λ end. absurd (omega (arith, low, end));
  }))

  pub some_place : (Spelled bytes → ⊥) → ⊥
  some_place wrong = each_begins (length bytes) (omega arith) (λ begins. bad (length bytes) (record {
    within = omega arith;
    begins = begins;
    ends = λ lt. absurd (omega (arith, lt));
    cut_off = λ end. wrong;
  }))
