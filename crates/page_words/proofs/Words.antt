-- Words in a block, one after the other.
use Rattle.std.proofs.Common.{◌≡◌, ◌≢◌, ◌<◌, inl, inr, ℕ, ◌+◌, ◌*◌, ◌^◌, List, get_or, sym, ap, subst, ◌∙◌, arith}
use Rattle.std.proofs.lemmas.Bool.{cases_eq, cases_lt}
use Rattle.base_bytes.specs.Fields.{PutsNumber, number_at, with_number}
use Rattle.base_bytes.proofs.FieldLaws.{number_at-with_number_apart, number_at-with_number_same}

-- the word that was put is read back
pub put_here : (place word : ℕ) (old new : List ℕ) → word < 2 ^ 64 → PutsNumber (8 * place) 8 word old new → number_at (8 * place) 8 new ≡ word
put_here place word old new small puts =
    ap (number_at (8 * place) 8) puts.put ∙ number_at-with_number_same (8 * place) 8 word old puts.within (omega (arith, small))

-- so is each other word
pub put_others : (place word : ℕ) (old new : List ℕ) → PutsNumber (8 * place) 8 word old new → (k : ℕ) → k ≢ place → number_at (8 * k) 8 new ≡ number_at (8 * k) 8 old
put_others place word old new puts k other =
    ap (number_at (8 * k) 8) puts.put ∙ elim (cases_lt k place) as (λ _. number_at (8 * k) 8 (with_number (8 * place) 8 word old) ≡ number_at (8 * k) 8 old) [
      | inl low ↦ number_at-with_number_apart (8 * place) 8 word (8 * k) 8 old puts.within (inl (omega (arith, low)))
      | inr high ↦ number_at-with_number_apart (8 * place) 8 word (8 * k) 8 old puts.within (inr (omega (arith, high, other)))
    ]

-- one word more was put
pub put_more : (words : List ℕ) (i : ℕ) (old new : List ℕ) → ((k : ℕ) → k < i → number_at (8 * k) 8 old ≡ get_or words k 0) → number_at (8 * i) 8 new ≡ get_or words i 0
    → ((k : ℕ) → k ≢ i → number_at (8 * k) 8 new ≡ number_at (8 * k) 8 old) → (k : ℕ) → k < i + 1 → number_at (8 * k) 8 new ≡ get_or words k 0
put_more words i old new before here others k lt = elim (cases_eq k i) as (λ _. number_at (8 * k) 8 new ≡ get_or words k 0) [
  | inl is ↦ subst (λ j. number_at (8 * j) 8 new ≡ get_or words j 0) (sym is) here
  | inr other ↦ others k other ∙ before k (omega (arith, lt, other))
]
