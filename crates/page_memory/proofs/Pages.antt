-- The words at every address stand where each page's words stand: in its frame, in its block or with the supplier.
use Rattle.std.proofs.Common.{◌≡◌, ◌≢◌, ℕ, ◌/◌, ◌%◌, ◌<◌, ◌≤◌, Bool, true, false, eqb, if◌then◌else◌, List, length, get_or, set, slice_index, Option, Some, None, IsSome, refl, sym, ap, ◌∙◌, inl, inr, subst, is_some, eq-eqb, arith}
use Rattle.std.proofs.lemmas.Bool.{cases_eq, cases_lt}
use Rattle.std.proofs.lemmas.Bool.Decides.{nat_tests}
use Rattle.std.proofs.lemmas.List.{get_or_past, get_or-set_same, get_or-set_other}
use Rattle.page_store.specs.model_kernel.State.{Supply}
use Rattle.data_frames.specs.FrameTable.{FrameTable, Resident, IsResident, changed_at, page_at, resident_changed, resident_count, unmarked}
use Rattle.data_frames.proofs.Pages.{count-same}
use Rattle.page_memory.specs.declared.paged.PagedMemory.{PagedMemory}
use Rattle.page_memory.specs.Words.{block_at, stored_word, word_by, word_in, words_of, AreCleanTrue}
use Rattle.page_memory.specs.Calls.{Stands}
use Rattle.std.proofs.lemmas.Option.{same_Some}

-- FRAMES

-- a page that is resident is in the list of pages
pub resident_within : (t : FrameTable) (page : ℕ) → IsResident t page → page < length t.pages
resident_within t page resident = elim (cases_lt page (length t.pages)) [
  | inl within ↦ within
  | inr past ↦ let clash : IsSome {T = Resident} None = subst IsSome (get_or_past t.pages page None past) resident in absurd (cc clash)
]

pub at_page : (t t' : FrameTable) (page : ℕ) (slot : Option Resident) → page < length t.pages → t'.pages ≡ set t.pages page slot → page_at t' page ≡ slot
at_page t t' page slot within is = ap (λ ps. get_or ps page None) is ∙ get_or-set_same t.pages page slot None within

pub at_other : (t t' : FrameTable) (page p : ℕ) (slot : Option Resident) → p ≢ page → t'.pages ≡ set t.pages page slot → page_at t' p ≡ page_at t p
at_other t t' page p slot differs is = ap (λ ps. get_or ps p None) is ∙ get_or-set_other t.pages page p slot None differs

-- where the same pages are resident, they fit as before
pub fits_same : (t t' : FrameTable) → ((p : ℕ) → is_some (page_at t' p) ≡ is_some (page_at t p)) → t'.frames ≡ t.frames → resident_count t ≤ t.frames → resident_count t' ≤ t'.frames
fits_same t t' same frames fits = let count : resident_count t' ≡ resident_count t = count-same t'.pages t.pages same in omega (arith, count, frames, fits)

-- a page that is changed is resident
pub changed_resident : (o : Option Resident) → resident_changed o ≡ true → IsSome o
changed_resident None e = absurd (cc e)
changed_resident (Some r) e = refl

-- ONE PAGE

eqb_zero : (n : ℕ) → eqb n 0 ≡ true → n ≡ 0
eqb_zero n e = elim (cases_eq n 0) [
  | inl zero ↦ zero
  | inr some ↦ let no : eqb n 0 ≡ false = grind (arith, nat_tests) in let clash : true ≡ false = sym e ∙ no in absurd (cc clash)
]

module _ (s : Supply) (tag : ℕ) (words words' : ℕ → List ℕ) (block page : ℕ) where
  stored_same : (block ≢ 0 → words' block ≡ words block) → (place : ℕ) → stored_word s tag words' block page place ≡ stored_word s tag words block page place
  stored_same same place = by_test (eqb block 0) refl
    where
      by_test : (zero : Bool) → eqb block 0 ≡ zero → (if zero then s tag page place else slice_index (words' block) place) ≡ (if zero then s tag page place else slice_index (words block) place)
      by_test true e = refl
      by_test false e = ap (λ (ws : List ℕ). slice_index ws place) (same (λ z. let clash : true ≡ false = sym (eq-eqb block 0 z) ∙ e in absurd (cc clash)))

  stored_in : block ≢ 0 → (place : ℕ) → stored_word s tag words block page place ≡ slice_index (words block) place
  stored_in some place = by_test (eqb block 0) refl
    where
      by_test : (zero : Bool) → eqb block 0 ≡ zero → (if zero then s tag page place else slice_index (words block) place) ≡ slice_index (words block) place
      by_test true e = absurd (some (eqb_zero block e))
      by_test false e = refl

  same_word : (o o' : Option Resident) → unmarked o' ≡ unmarked o → (block ≢ 0 → resident_changed o ≡ false → words' block ≡ words block) → (place : ℕ) → word_by s tag words' block page place o' ≡ word_by s tag words block page place o
  same_word None None e w place = stored_same (λ some. w some refl) place
  same_word None (Some r') e w place = absurd (cc e)
  same_word (Some r) None e w place = absurd (cc e)
  same_word (Some r) (Some r') e w place = ap (λ x. slice_index x.0 place) (same_Some _ _ e)

  same_clean :
      (o o' : Option Resident) → unmarked o' ≡ unmarked o → (block ≢ 0 → resident_changed o ≡ false → words' block ≡ words block) → (place : ℕ)
      → (IsSome o → resident_changed o ≡ false → word_by s tag words block page place o ≡ stored_word s tag words block page place)
      → IsSome o' → resident_changed o' ≡ false → word_by s tag words' block page place o' ≡ stored_word s tag words' block page place
  same_clean o None e w place was there clean = let clash : IsSome {T = Resident} None = there in absurd (cc clash)
  same_clean None (Some r') e w place was there clean = absurd (cc e)
  same_clean (Some r) (Some r') e w place was there clean =
      let unchanged : r.changed ≡ false = sym (ap (λ x. x.1) (same_Some _ _ e)) ∙ clean in
      same_word (Some r) (Some r') e w place ∙ was refl unchanged ∙ sym (stored_same (λ some. w some unchanged) place)

-- what is claimed of a page that isn't changed
abbrev pub IsCleanPage : Supply → (ℕ → List ℕ) → PagedMemory → ℕ → Type 0
IsCleanPage s words m p = (place : ℕ) → place < 128 → IsResident m.frames p → changed_at m.frames p ≡ false
    → word_in s words m p place ≡ stored_word s m.tag words (block_at m p) p place

-- a page's words are the same, and it isn't marked as changed where its block has other words
pub record Same (s : Supply) (words words' : ℕ → List ℕ) (m m' : PagedMemory) (p : ℕ) : Type 0 where
  pub word : IsCleanPage s words m p → (place : ℕ) → place < 128 → word_in s words' m' p place ≡ word_in s words m p place
  pub clean : IsCleanPage s words m p → IsCleanPage s words' m' p

-- where each page stands, all words do
pub stands : (s : Supply) (words words' : ℕ → List ℕ) (m m' : PagedMemory) → ((p : ℕ) → Same s words words' m m' p) → AreCleanTrue s words m → Stands s words words' m m'
stands s words words' m m' each clean = record {
  same = λ i address. at address i;
  clean = λ p place. (each p).clean (clean p) place;
}
  where
    at : (address : ℕ) → words_of s words' m' address ≡ words_of s words m address
    at address = (each (address / 128)).word (clean (address / 128)) (address % 128) (omega arith)

pub stands_trans : (s : Supply) (w w' w'' : ℕ → List ℕ) (m m' m'' : PagedMemory) → Stands s w w' m m' → Stands s w' w'' m' m'' → Stands s w w'' m m''
stands_trans s w w' w'' m m' m'' first second = record { same = second.same ∙ first.same; clean = second.clean }

module _ (s : Supply) (words words' : ℕ → List ℕ) (m m' : PagedMemory) (p : ℕ) (same_tag : m'.tag ≡ m.tag) where
  word_moved : block_at m' p ≡ block_at m p → (o : Option Resident) (place : ℕ) → word_by s m'.tag words' (block_at m' p) p place o ≡ word_by s m.tag words' (block_at m p) p place o
  word_moved same_block o place = ap (λ t. word_by s t words' (block_at m' p) p place o) same_tag ∙ ap (λ n. word_by s m.tag words' n p place o) same_block

  -- a page that nothing was done to but for its mark of use
  pub untouched : block_at m' p ≡ block_at m p → unmarked (page_at m'.frames p) ≡ unmarked (page_at m.frames p) → (block_at m p ≢ 0 → changed_at m.frames p ≡ false → words' (block_at m p) ≡ words (block_at m p)) → Same s words words' m m' p
  untouched same_block same_page same_words = record {
    word = λ _ place _. word_moved same_block (page_at m'.frames p) place ∙ same_word s m.tag words words' (block_at m p) p (page_at m.frames p) (page_at m'.frames p) same_page same_words place;
    clean = λ was place within there unchanged.
        word_moved same_block (page_at m'.frames p) place
        ∙ same_clean s m.tag words words' (block_at m p) p (page_at m.frames p) (page_at m'.frames p) same_page same_words place (was place within) there unchanged
        ∙ sym (word_moved same_block None place);
  }

  -- a page whose words were written to its block
  pub saved : (r r' : Resident) → page_at m.frames p ≡ Some r → page_at m'.frames p ≡ Some r' → r'.words ≡ r.words → block_at m' p ≢ 0 → words' (block_at m' p) ≡ r.words → Same s words words' m m' p
  saved r r' at at' same some written = record {
    word = λ _ place _.
        ap (λ o. word_by s m'.tag words' (block_at m' p) p place o) at' ∙ ap (λ (ws : List ℕ). slice_index ws place) same
        ∙ sym (ap (λ o. word_by s m.tag words (block_at m p) p place o) at);
    clean = λ _ place _ _ _.
        ap (λ o. word_by s m'.tag words' (block_at m' p) p place o) at' ∙ ap (λ (ws : List ℕ). slice_index ws place) (same ∙ sym written)
        ∙ sym (stored_in s m'.tag words' words' (block_at m' p) p some place);
  }

  -- a page that isn't changed and left its frame
  pub removed : (r : Resident) → block_at m' p ≡ block_at m p → page_at m.frames p ≡ Some r → r.changed ≡ false → page_at m'.frames p ≡ None → words' ≡ words → Same s words words' m m' p
  removed r same_block at unchanged gone same = record {
    word = λ was place within.
        ap (λ o. word_by s m'.tag words' (block_at m' p) p place o) gone ∙ word_moved same_block None place
        ∙ ap (λ (w : ℕ → List ℕ). stored_word s m.tag w (block_at m p) p place) same
        ∙ sym (was place within (ap is_some at) (ap resident_changed at ∙ unchanged));
    clean = λ _ place _ there _. let clash : IsSome {T = Resident} None = subst IsSome gone there in absurd (cc clash);
  }

  -- a page that came into a frame with its words
  pub placed : (r' : Resident) → block_at m' p ≡ block_at m p → page_at m.frames p ≡ None → page_at m'.frames p ≡ Some r' → (block_at m p ≢ 0 → words' (block_at m p) ≡ words (block_at m p)) → ((place : ℕ) → place < 128 → slice_index r'.words place ≡ stored_word s m.tag words (block_at m p) p place) → Same s words words' m m' p
  placed r' same_block at at' same filled = record {
    word = λ _ place within.
        ap (λ o. word_by s m'.tag words' (block_at m' p) p place o) at' ∙ filled place within
        ∙ sym (ap (λ o. word_by s m.tag words (block_at m p) p place o) at);
    clean = λ _ place within _ _.
        ap (λ o. word_by s m'.tag words' (block_at m' p) p place o) at' ∙ filled place within
        ∙ sym (word_moved same_block None place ∙ stored_same s m.tag words words' (block_at m p) p same place);
  }
