-- A memory that was begun: no page is resident, so each has its block's words or the supplier's.
use Rattle.std.proofs.Common.{◌≡◌, ℕ, Bool, ◌/◌, ◌%◌, ◌≤◌, List, length, replicate, get_or, is_some, Option, IsSome, None, sym, ap, ◌∙◌, inl, inr, arith}
use Rattle.std.proofs.lemmas.Bool.{cases_lt}
use Rattle.std.proofs.lemmas.List.{get_or_past, get_or-replicate, length-replicate}
use Rattle.page_store.specs.model_kernel.State.{Supply}
use Rattle.data_frames.specs.FrameTable.{Resident, page_at, resident_count}
use Rattle.data_frames.proofs.Pages.{count-none}
use Rattle.page_memory.specs.declared.paged.PagedMemory.{PagedMemory}
use Rattle.page_memory.specs.Words.{block_at, stored_word, word_by, words_of, AreCleanTrue, AreHeldBlocks, IsSoundTable}

abbrev no_page : Option Resident
no_page = None

-- there is nothing in a list of nothing
nothing_at : (n page : ℕ) → get_or (replicate n no_page) page no_page ≡ no_page
nothing_at n page = elim (cases_lt page n) [
  | inl within ↦ get_or-replicate n page no_page no_page within
  | inr past ↦ (let len : length (replicate n no_page) ≡ n = length-replicate n no_page in get_or_past (replicate n no_page) page no_page (omega (arith, len)))
]

module _ (m : PagedMemory) (n : ℕ) (empty : m.frames.pages ≡ replicate n no_page) where
  none_resident : (page : ℕ) → page_at m.frames page ≡ None
  none_resident page = ap (λ ps. get_or ps page None) empty ∙ nothing_at n page

  pub begun_clean : (s : Supply) (words : ℕ → List ℕ) → AreCleanTrue s words m
  begun_clean s words page place within there unchanged = let clash : IsSome {T = Resident} None = sym (ap is_some (none_resident page)) ∙ there in absurd (cc clash)

  pub begun_words : (s : Supply) (words : ℕ → List ℕ) (address : ℕ) → words_of s words m address ≡ stored_word s m.tag words (block_at m (address / 128)) (address / 128) (address % 128)
  begun_words s words address = ap (word_by s m.tag words (block_at m (address / 128)) (address / 128) (address % 128)) (none_resident (address / 128))

  pub begun_table : (held : ℕ → Bool) → m.pages ≤ 256 → length m.table ≡ 256 → ((page : ℕ) → m.pages ≤ page → block_at m page ≡ 0) → AreHeldBlocks held m.table → IsSoundTable held m
  begun_table held few len past blocks = record {
    few = few;
    len = len;
    fits = let none : resident_count m.frames ≡ 0 = count-none m.frames.pages none_resident in omega (arith, none);
    none_past = λ page high. (past page high, none_resident page);
    held_blocks = blocks.held_blocks;
    differ = blocks.differ;
  }
