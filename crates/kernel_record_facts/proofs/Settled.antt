-- The words of a memory none of whose pages is changed are those of its blocks.
use Rattle.std.proofs.Common.{◌≡◌, ℕ, ◌*◌, ◌/◌, ◌%◌, ◌<◌, ◌≤◌, inl, inr, ◌==◌, if◌then◌else◌, List, length, take, slice_index, Option, Some, None, is_some, refl, sym, ap, ◌∙◌, arith}
use Rattle.std.proofs.lemmas.Bool.{cases_lt}
use Rattle.std.proofs.lemmas.List.{get_or-map, get_or_past, get_or-take, length-take-le}
use Rattle.base_types.specs.Edges.{upto}
use Rattle.cell_blobs.specs.model_kernel.State.{Supply}
use Rattle.base_bytes.specs.Fields.{number_at}
use Rattle.cell_blobs.proofs.model_kernel_lemmas.Lists.{upto_get, upto_len}
use Rattle.cell_blobs.specs.image_meaning.Parts.{words_in, word_in as image_word}
use Rattle.kernel_invariant.specs.store_books.Books.{words_of_bytes}
use Rattle.data_frames.specs.FrameTable.{Resident, page_at}
use Rattle.cell_blobs.specs.page_memory.declared.paged.PagedMemory.{PagedMemory}
use Rattle.cell_blobs.specs.page_memory.Words.{AreCleanTrue, block_at, stored_word, word_by, word_in, words_of}
use Rattle.cell_blobs.specs.page_memory.Calls.{IsUnchanged}

-- a word of a block
pub word_at : (bytes : List ℕ) (place : ℕ) → place < 128 → slice_index (words_of_bytes bytes) place ≡ number_at (8 * place) 8 bytes
word_at bytes place lt =
    let len = upto_len 128 in
    get_or-map (λ i. number_at (8 * i) 8 bytes) (upto 128) place 0 0 (omega (arith, lt, len)) ∙ ap (λ i. number_at (8 * i) 8 bytes) (upto_get 128 place lt)

-- the block of a page stands in the front of the table that has the memory's size
pub front_block : (table : List ℕ) (pages page : ℕ) → length table ≡ 256 → pages ≤ 256 → (pages ≤ page → slice_index table page ≡ 0)
    → slice_index (take pages table) page ≡ slice_index table page
front_block table pages page sized few past = elim (cases_lt page pages) as (λ _. slice_index (take pages table) page ≡ slice_index table page) [
  | inl low ↦ get_or-take pages table page 0 low
  | inr high ↦ get_or_past (take pages table) page 0 (let len = length-take-le pages table (omega (arith, sized, few)) in omega (arith, high, len)) ∙ sym (past high)
]

module _ (s : Supply) (bytes : ℕ → List ℕ) where
  -- a word that its block or the supplier has
  stored_at : (tag block address : ℕ) → stored_word s tag (λ n. words_of_bytes (bytes n)) block (address / 128) (address % 128) ≡ image_word s tag bytes block address
  stored_at tag block address = ap (λ (w : ℕ). if block == 0 then s tag (address / 128) (address % 128) else w) (word_at (bytes block) (address % 128) (omega arith))

  module _ (m : PagedMemory) (clean : AreCleanTrue s (λ n. words_of_bytes (bytes n)) m) (unchanged : IsUnchanged m) where
    by_page : (page place : ℕ) → place < 128 → (o : Option Resident) → page_at m.frames page ≡ o
        → word_in s (λ n. words_of_bytes (bytes n)) m page place ≡ stored_word s m.tag (λ n. words_of_bytes (bytes n)) (block_at m page) page place
    by_page page place lt None is = ap (λ (o : Option Resident). word_by s m.tag (λ n. words_of_bytes (bytes n)) (block_at m page) page place o) is
    by_page page place lt (Some r) is = clean page place lt (ap is_some is) (unchanged page)

    -- THE WORDS, at every address
    pub settled : length m.table ≡ 256 → m.pages ≤ 256 → ((page : ℕ) → m.pages ≤ page → block_at m page ≡ 0)
        → words_of s (λ n. words_of_bytes (bytes n)) m ≡ words_in s m.tag bytes (take m.pages m.table)
    settled sized few past = λ i address. each address i
      where
        each : (address : ℕ) → words_of s (λ n. words_of_bytes (bytes n)) m address ≡ words_in s m.tag bytes (take m.pages m.table) address
        each address =
            by_page (address / 128) (address % 128) (omega arith) (page_at m.frames (address / 128)) refl
            ∙ stored_at m.tag (block_at m (address / 128)) address
            ∙ ap (λ (block : ℕ). image_word s m.tag bytes block address) (sym (front_block m.table m.pages (address / 128) sized few (past (address / 128))))
