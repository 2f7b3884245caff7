-- The words that the pages of a table give a container.
use Rattle.std.proofs.Common.{◌≡◌, inl, inr, ℕ, zero, suc, ◌*◌, ◌/◌, ◌%◌, ◌<◌, ◌≤◌, Bool, true, false, ◌==◌, if◌then◌else◌, List, [], ◌∷◌, ◌++◌, length, Option, Some, None, refl, sym, ap, subst, ◌∙◌, arith, eqb-true, eq-eqb}
use Rattle.std.specs.Prelude.{slice_index}
use Rattle.std.proofs.lemmas.Bool.{cases_lt}
use Rattle.std.proofs.lemmas.List.{get_or_past}
use Rattle.edge_disk.specs.Image.{Image, block_at}
use Rattle.kernel_record_facts.proofs.Settled.{word_at}
use Rattle.kernel_record_facts.specs.Cells.{words_on}
use Rattle.kernel_record_facts.specs.image_meaning.Parts.{word_in}
use Rattle.kernel_record_facts.specs.kernel_invariant.image_facts.Bodies.{number_at}
use Rattle.kernel_record_facts.specs.kernel_invariant.model_kernel.State.{Supply}
use Rattle.node_pages.specs.Reading.{page_in, pages_to}
use Rattle.node_shipments.specs.node_records.Shipments.{page_words, word_or}
use Rattle.node_shipments.specs.node_store.page_placing.declared.writing.PageWords.{PageWords}

-- the words of a block, none where there is none
abbrev pub block_words : (ℕ → List ℕ) → ℕ → Option (List ℕ)
block_words words block = if block == 0 then None else Some (words block)

found_first : (ps qs : List PageWords) (p : ℕ) (ws : List ℕ) → page_words ps p ≡ Some ws → page_words (ps ++ qs) p ≡ Some ws
found_first [] qs p ws is = cc is
found_first (q ∷ ps) qs p ws is = by_test (q.page == p) is (found_first ps qs p ws)
  where
    by_test : (t : Bool) → (if t then Some q.words else page_words ps p) ≡ Some ws → (page_words ps p ≡ Some ws → page_words (ps ++ qs) p ≡ Some ws) → (if t then Some q.words else page_words (ps ++ qs) p) ≡ Some ws
    by_test true at rest = at
    by_test false at rest = rest at

found_behind : (ps qs : List PageWords) (p : ℕ) → page_words ps p ≡ None → page_words (ps ++ qs) p ≡ page_words qs p
found_behind [] qs p is = refl
found_behind (q ∷ ps) qs p is = by_test (q.page == p) is (found_behind ps qs p)
  where
    by_test : (t : Bool) → (if t then Some q.words else page_words ps p) ≡ None → (page_words ps p ≡ None → page_words (ps ++ qs) p ≡ page_words qs p) → (if t then Some q.words else page_words (ps ++ qs) p) ≡ page_words qs p
    by_test true at rest = cc at
    by_test false at rest = rest at

module _ (words : ℕ → List ℕ) where
  one_own : (page block : ℕ) → page_words (page_in words page block) page ≡ block_words words block
  one_own page block = by_test (block == 0)
    where
      same : (page == page) ≡ true
      same = eq-eqb page page refl

      by_test : (t : Bool) → page_words (if t then [] else record { page = page; words = words block } ∷ []) page ≡ (if t then None else Some (words block))
      by_test true = refl
      by_test false = ap (λ (b : Bool). if b then Some (words block) else None) same

  one_other : (page block p : ℕ) → (page ≡ p → ⊥) → page_words (page_in words page block) p ≡ None
  one_other page block p apart = by_test (block == 0) (page == p) refl
    where
      by_test : (t s : Bool) → (page == p) ≡ s → page_words (if t then [] else record { page = page; words = words block } ∷ []) p ≡ None
      by_test true s e = refl
      by_test false true e = absurd (apart (eqb-true page p e))
      by_test false false e = ap (λ (b : Bool). if b then Some (words block) else None) e

  module _ (table : List ℕ) where
    past : (n p : ℕ) → n ≤ p → page_words (pages_to words table n) p ≡ None
    unfolding pages_to
    past zero p le = refl
    past (suc n) p le =
        found_behind (pages_to words table n) (page_in words n (slice_index table n)) p (past n p (omega (arith, le)))
        ∙ one_other n (slice_index table n) p (λ same. omega (arith, le, same))

    -- each page of the table that has a block is there with its words
    pub found : (n p : ℕ) → p < n → page_words (pages_to words table n) p ≡ block_words words (slice_index table p)
    unfolding pages_to
    found zero p lt = absurd (omega (arith, lt))
    found (suc n) p lt = elim (cases_lt p n) as (λ _. page_words (pages_to words table n ++ page_in words n (slice_index table n)) p ≡ block_words words (slice_index table p)) [
      | inl less ↦ by_words (block_words words (slice_index table p)) (found n p less) less
      | inr more ↦ (
          let same : p ≡ n = omega (arith, lt, more) in
          found_behind (pages_to words table n) (page_in words n (slice_index table n)) p (past n p more)
          ∙ subst (λ (k : ℕ). page_words (page_in words n (slice_index table n)) k ≡ block_words words (slice_index table k)) (sym same) (one_own n (slice_index table n)))
    ]
      where
        by_words : (o : Option (List ℕ)) → page_words (pages_to words table n) p ≡ o → p < n → page_words (pages_to words table n ++ page_in words n (slice_index table n)) p ≡ o
        by_words (Some ws) is less = found_first (pages_to words table n) (page_in words n (slice_index table n)) p ws is
        by_words None is less =
            found_behind (pages_to words table n) (page_in words n (slice_index table n)) p is
            ∙ one_other n (slice_index table n) p (λ same. omega (arith, less, same))

  -- of all its places
  pub found_all : (table : List ℕ) (p : ℕ) → length table ≤ 256 → page_words (pages_to words table 256) p ≡ block_words words (slice_index table p)
  found_all table p few = elim (cases_lt p 256) as (λ _. page_words (pages_to words table 256) p ≡ block_words words (slice_index table p)) [
    | inl less ↦ found table 256 p less
    | inr more ↦ past table 256 p more ∙ sym (ap (block_words words) (get_or_past table p 0 (omega (arith, few, more))))
  ]

-- A WORD of a container, of its page where that has a block
pub word_found : (s : Supply) (image : Image) (tag : ℕ) (table : List ℕ) (pages : List PageWords) (address : ℕ)
    → page_words pages (address / 128) ≡ block_words (words_on image) (slice_index table (address / 128))
    → word_or (s tag (address / 128) (address % 128)) (address % 128) (page_words pages (address / 128)) ≡ word_in s tag (block_at image) (slice_index table (address / 128)) address
word_found s image tag table pages address is = ap (word_or (s tag (address / 128) (address % 128)) (address % 128)) is ∙ by_test (slice_index table (address / 128) == 0)
  where
    by_test : (t : Bool) → word_or (s tag (address / 128) (address % 128)) (address % 128) (if t then None else Some (words_on image (slice_index table (address / 128))))
        ≡ (if t then s tag (address / 128) (address % 128) else number_at (8 * (address % 128)) 8 (block_at image (slice_index table (address / 128))))
    by_test true = refl
    by_test false = word_at (block_at image (slice_index table (address / 128))) (address % 128) (omega arith)
