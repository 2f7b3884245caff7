-- A memory that begins with no blocks, and a word that is read back.
use Rattle.std.proofs.Common.{◌≡◌, ℕ, Bool, List, length, replicate, slice_index, ap, ◌∙◌, inl, inr, refl, eq-eqb, arith}
use Rattle.std.proofs.lemmas.Bool.{cases_lt}
use Rattle.std.proofs.lemmas.List.{get_or_past, get_or-replicate, length-replicate}
use Rattle.page_store.specs.model_kernel.Words.{put}
use Rattle.page_memory.specs.Words.{AreHeldBlocks}

abbrev zeros : ℕ → List ℕ
zeros n = replicate n 0

zero_at : (n page : ℕ) → slice_index (zeros n) page ≡ 0
zero_at n page = elim (cases_lt page n) [
  | inl within ↦ get_or-replicate n page 0 0 within
  | inr past ↦ (let len : length (zeros n) ≡ n = length-replicate n 0 in get_or_past (zeros n) page 0 (omega (arith, len)))
]

module _ (table : List ℕ) (n : ℕ) (empty : table ≡ zeros n) where
  -- a table without blocks has none at any page
  pub no_block : (page : ℕ) → slice_index table page ≡ 0
  no_block page = ap (λ xs. slice_index xs page) empty ∙ zero_at n page

  pub none_held : (held : ℕ → Bool) → AreHeldBlocks held table
  none_held held = record {
    held_blocks = λ page some. absurd (some (no_block page));
    differ = λ p q some _. absurd (some (no_block p));
  }

pub put_here : (f : ℕ → ℕ) (address word : ℕ) → put f address word address ≡ word
put_here f address word = rw (eq-eqb address address refl) refl
