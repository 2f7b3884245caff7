-- A word of a resident page is read or written: no other word changes.
use Rattle.std.proofs.Common.{◌≡◌, ◌≢◌, ℕ, ◌/◌, ◌%◌, ◌<◌, Bool, true, false, eqb, List, length, set, slice_index, is_some, Option, Some, None, Err, IsSome, refl, sym, ap, ◌∙◌, inl, inr, eq-eqb, arith}
use Rattle.std.proofs.lemmas.Bool.{cases_eq}
use Rattle.std.proofs.lemmas.Bool.Decides.{nat_tests}
use Rattle.std.proofs.lemmas.List.{get_or-set_same, get_or-set_other}
use Rattle.page_store.specs.model_kernel.State.{Supply}
use Rattle.page_store.specs.model_kernel.Words.{put}
use Rattle.page_store.specs.declared.faults.PageFault.{PageFault}
use Rattle.data_frames.specs.FrameTable.{FrameTable, Resident, IsResident, changed_at, page_at, resident_changed, resident_words, unmarked, with_resident, words_at}
use Rattle.page_memory.specs.declared.paged.PagedMemory.{PagedMemory}
use Rattle.page_memory.specs.Words.{block_at, word_by, word_in, words_of, AreCleanTrue, IsSoundTable}
use Rattle.page_memory.specs.Calls.{KeepsBlocks, KeepsPages, MarksOne, Reads}
use Rattle.page_memory.proofs.Pages.{at_other, at_page, fits_same, resident_within, untouched}

unmarked_is : (o : Option Resident) → IsSome o → unmarked o ≡ Some (resident_words o, resident_changed o)
unmarked_is None there = let clash : IsSome {T = Resident} None = there in absurd (cc clash)
unmarked_is (Some r) there = refl

resident_word : (s : Supply) (tag : ℕ) (words : ℕ → List ℕ) (block page place : ℕ) (o : Option Resident) → IsSome o → slice_index (resident_words o) place ≡ word_by s tag words block page place o
resident_word s tag words block page place None there = let clash : IsSome {T = Resident} None = there in absurd (cc clash)
resident_word s tag words block page place (Some r) there = refl

-- the same pages are resident, so the same reads were due
pub reads_same : (from m m' : PagedMemory) (page before now : ℕ) → ((p : ℕ) → is_some (page_at m'.frames p) ≡ is_some (page_at m.frames p)) → Reads before now from m page → Reads before now from m' page
reads_same from m m' page before now same reads = record {
  once = λ read. reads.once (read.0, read.1, λ both. read.2 (both.0, λ p there. same p ∙ both.1 p there));
  never = λ unread. reads.never (λ read. unread (read.0, read.1, λ both. read.2 (both.0, λ p there. sym (same p) ∙ both.1 p there)));
}

pub container_of : (kept : ℕ → Bool) (m m' : PagedMemory) → KeepsPages kept m m' → KeepsBlocks kept m m'
container_of kept m m' pages = record {
  same_tag = pages.same_tag;
  same_pages = pages.same_pages;
  same_frames = pages.same_frames;
  same_blocks = pages.same_blocks;
}

module _ (m : PagedMemory) (page : ℕ) (there : IsResident m.frames page) (t : FrameTable) (ws : List ℕ) (changed : Bool) (is : t ≡ with_resident m.frames page ws changed true) where
  pub here : page_at t page ≡ Some (record { words = ws; changed = changed; used = true })
  here = at_page m.frames t page _ (resident_within m.frames page there) (ap (λ (x : FrameTable). x.pages) is)

  pub other : (p : ℕ) → p ≢ page → page_at t p ≡ page_at m.frames p
  other p differs = at_other m.frames t page p _ differs (ap (λ (x : FrameTable). x.pages) is)

  pub same_residents : (p : ℕ) → is_some (page_at t p) ≡ is_some (page_at m.frames p)
  same_residents p = elim (cases_eq p page) [
    | inl same ↦ ap (λ q. is_some (page_at t q)) same ∙ ap is_some here ∙ sym there ∙ sym (ap (λ q. is_some (page_at m.frames q)) same)
    | inr differs ↦ ap is_some (other p differs)
  ]

  pub same_table : (held : ℕ → Bool) → IsSoundTable held m → IsSoundTable held (record m { frames = t })
  same_table held table = record {
    few = table.few;
    len = table.len;
    fits = fits_same m.frames t same_residents (ap (λ (x : FrameTable). x.frames) is) table.fits;
    none_past = λ p past. let none = table.none_past p past in (
      none.0,
      elim (cases_eq p page) [
        | inl same ↦ let clash : true ≡ false = sym there ∙ ap (λ q. is_some (page_at m.frames q)) (sym same) ∙ ap is_some none.1 in absurd (cc clash)
        | inr differs ↦ other p differs ∙ none.1
      ],
    );
    held_blocks = table.held_blocks;
    differ = table.differ;
  }

  pub same_container : (kept : ℕ → Bool) (from : PagedMemory) → KeepsPages kept from m → KeepsBlocks kept from (record m { frames = t })
  same_container kept from pages = record {
    same_tag = pages.same_tag;
    same_pages = pages.same_pages;
    same_frames = ap (λ (x : FrameTable). x.frames) is ∙ pages.same_frames;
    same_blocks = pages.same_blocks;
  }

  pub others_unchanged : (p : ℕ) → p ≢ page → changed_at t p ≡ true → changed_at m.frames p ≡ true
  others_unchanged p differs e = sym (ap resident_changed (other p differs)) ∙ e

  -- a read
  module _ (words_same : ws ≡ words_at m.frames page) (mark_same : changed ≡ changed_at m.frames page) where
    pub read_marked : (p : ℕ) → unmarked (page_at t p) ≡ unmarked (page_at m.frames p)
    read_marked p = elim (cases_eq p page) [
      | inl same ↦
          ap (λ q. unmarked (page_at t q)) same ∙ ap unmarked here ∙ ap (λ (w : List ℕ). Some (w, changed)) words_same
          ∙ ap (λ (b : Bool). Some (words_at m.frames page, b)) mark_same
          ∙ sym (unmarked_is (page_at m.frames page) there)
          ∙ sym (ap (λ q. unmarked (page_at m.frames q)) same)
      | inr differs ↦ ap unmarked (other p differs)
    ]

    pub read_pages : (kept : ℕ → Bool) (from : PagedMemory) → KeepsPages kept from m → KeepsPages kept from (record m { frames = t })
    read_pages kept from pages = record {
      same_tag = pages.same_tag;
      same_pages = pages.same_pages;
      same_frames = ap (λ (x : FrameTable). x.frames) is ∙ pages.same_frames;
      same_blocks = pages.same_blocks;
      none_changed = λ p e. pages.none_changed p (elim (cases_eq p page) [
        | inl same ↦ ap (changed_at m.frames) same ∙ sym mark_same ∙ sym (ap resident_changed here) ∙ sym (ap (changed_at t) same) ∙ e
        | inr differs ↦ others_unchanged p differs e
      ]);
    }

-- the word that is read is the memory's
pub word_is : (s : Supply) (words : ℕ → List ℕ) (m : PagedMemory) (page place : ℕ) → IsResident m.frames page → slice_index (words_at m.frames page) place ≡ word_in s words m page place
word_is s words m page place there = resident_word s m.tag words (block_at m page) page place (page_at m.frames page) there

-- a write
module _ (s : Supply) (words : ℕ → List ℕ) (m : PagedMemory) (address word : ℕ) (there : IsResident m.frames (address / 128)) (t : FrameTable) (whole : length (words_at m.frames (address / 128)) ≡ 128) (is : t ≡ with_resident m.frames (address / 128) (set (words_at m.frames (address / 128)) (address % 128) word) true true) where
  written_here : page_at t (address / 128) ≡ Some (record { words = set (words_at m.frames (address / 128)) (address % 128) word; changed = true; used = true })
  written_here = here m (address / 128) there t _ true is

  in_page : (place : ℕ) → word_in s words (record m { frames = t }) (address / 128) place ≡ slice_index (set (words_at m.frames (address / 128)) (address % 128) word) place
  in_page place = ap (λ o. word_by s m.tag words (block_at m (address / 128)) (address / 128) place o) written_here

  at : (a : ℕ) → words_of s words (record m { frames = t }) a ≡ put (words_of s words m) address word a
  at a = elim (cases_eq a address) [
    | inl same ↦
        let yes : eqb a address ≡ true = eq-eqb a address same in
        let inside : address % 128 < length (words_at m.frames (address / 128)) = omega (arith, whole) in
        rw yes
        (ap (words_of s words (record m { frames = t })) same ∙ in_page (address % 128) ∙ get_or-set_same (words_at m.frames (address / 128)) (address % 128) word 0 inside)
    | inr apart ↦ let no : eqb a address ≡ false = grind (arith, nat_tests) in rw no (elsewhere a apart)
  ]
    where
      elsewhere : (a : ℕ) → a ≢ address → words_of s words (record m { frames = t }) a ≡ words_of s words m a
      elsewhere a apart = elim (cases_eq (a / 128) (address / 128)) [
        | inl same ↦
            let place : a % 128 ≢ address % 128 = λ e. apart (omega (arith, e, same)) in
            ap (λ q. word_in s words (record m { frames = t }) q (a % 128)) same ∙ in_page (a % 128)
            ∙ get_or-set_other (words_at m.frames (address / 128)) (address % 128) (a % 128) word 0 place
            ∙ word_is s words m (address / 128) (a % 128) there
            ∙ sym (ap (λ q. word_in s words m q (a % 128)) same)
        | inr differs ↦
            ap (λ o. word_by s m.tag words (block_at m (a / 128)) (a / 128) (a % 128) o) (other m (address / 128) there t _ true is (a / 128) differs)
      ]

  pub words_written : words_of s words (record m { frames = t }) ≡ put (words_of s words m) address word
  words_written = λ i a. at a i

  pub clean_written : AreCleanTrue s words m → AreCleanTrue s words (record m { frames = t })
  clean_written clean p place within resident unchanged = elim (cases_eq p (address / 128)) [
    | inl same ↦ let clash : true ≡ false = sym (ap resident_changed written_here) ∙ sym (ap (changed_at t) same) ∙ unchanged in absurd (cc clash)
    | inr differs ↦
        (untouched s words words m (record m { frames = t }) p refl refl (ap unmarked (other m (address / 128) there t _ true is p differs)) (λ _ _. refl)).clean (clean p) place within resident unchanged
  ]

-- a store that failed marks no page
pub marks_err : {T : Type 0} (writes : Bool) (m m' : PagedMemory) (page : ℕ) (e : PageFault) → ((p : ℕ) → changed_at m'.frames p ≡ true → changed_at m.frames p ≡ true) → MarksOne {T = T} writes m m' page (Err e)
marks_err writes m m' page e none = record { resident = tt; changed = λ _. tt; others = λ p _ is. none p is; by_load = λ _ is. none page is; failed = λ is. none page is }
