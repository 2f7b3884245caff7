-- A page leaves its frame: the clock's victim, after it was saved. No word changes.
use Rattle.std.proofs.Common.{◌≡◌, ◌≢◌, ◌↔◌, ℕ, ◌+◌, ◌<◌, ◌≤◌, Bool, true, false, ◌&&◌, ◌||◌, ◌==◌, List, length, set, Option, Some, None, Result, is_some, IsSome, IsErrOf, OnOk, OnSome, count_by, refl, sym, ap, ◌∙◌, inl, inr, subst, arith}
use Rattle.std.proofs.lemmas.Bool.{cases_eq}
use Rattle.page_store.specs.model_kernel.State.{Supply}
use Rattle.page_store.specs.declared.faults.PageFault.{PageFault}
use Rattle.page_store.specs.declared.faults.PageFault.TheVariants as fault
use Rattle.data_frames.specs.FrameTable.{FrameTable, Resident, HasEmptyFrame, IsResident, IsVictim, Removes, changed_at, page_at, page_taken, resident_changed, resident_count, unmarked}
use Rattle.data_frames.proofs.Pages.{count-set_gone, not_some}
use Rattle.page_memory.specs.declared.paged.PagedMemory.{PagedMemory}
use Rattle.page_memory.specs.Words.{block_at, needs_block, AreCleanTrue, IsSoundTable}
use Rattle.page_memory.specs.Calls.{AllStay, Chooses, IsWritten, Keeps, KeepsPages, Saves, Stands}
use Rattle.page_memory.proofs.Pages.{Same, at_other, at_page, fits_same, removed, resident_within, stands, stands_trans, untouched}
use Rattle.page_memory.proofs.Blocks.{resident_is}
use Rattle.std.proofs.lemmas.Option.{same_Some}

-- a page seen alike but for its mark of use is changed alike, and resident alike
pub marked_changed : (o o' : Option Resident) → unmarked o' ≡ unmarked o → resident_changed o' ≡ resident_changed o
marked_changed None None e = refl
marked_changed None (Some r') e = absurd (cc e)
marked_changed (Some r) None e = absurd (cc e)
marked_changed (Some r) (Some r') e = ap (λ x. x.1) (same_Some _ _ e)

marked_resident : (o o' : Option Resident) → unmarked o' ≡ unmarked o → is_some o' ≡ is_some o
marked_resident None None e = refl
marked_resident None (Some r') e = absurd (cc e)
marked_resident (Some r) None e = absurd (cc e)
marked_resident (Some r) (Some r') e = refl

-- MARKS OF USE

module _ (m : PagedMemory) (t : FrameTable) (marked : (p : ℕ) → unmarked (page_at t p) ≡ unmarked (page_at m.frames p)) where
  pub marked_stands : (s : Supply) (words : ℕ → List ℕ) → AreCleanTrue s words m → Stands s words words m (record m { frames = t })
  marked_stands s words = stands s words words m (record m { frames = t }) (λ p. untouched s words words m (record m { frames = t }) p refl refl (marked p) (λ _ _. refl))

  pub marked_none : (p : ℕ) → page_at m.frames p ≡ None → page_at t p ≡ None
  marked_none p none = not_some (page_at t p) (marked_resident (page_at m.frames p) (page_at t p) (marked p) ∙ ap is_some none)

  pub marked_some : (p : ℕ) → IsResident m.frames p → IsResident t p
  marked_some p there = marked_resident (page_at m.frames p) (page_at t p) (marked p) ∙ there

  pub marked_table : (held : ℕ → Bool) → t.frames ≡ m.frames.frames → IsSoundTable held m → IsSoundTable held (record m { frames = t })
  marked_table held frames table = record {
    few = table.few;
    len = table.len;
    fits = fits_same m.frames t (λ p. marked_resident (page_at m.frames p) (page_at t p) (marked p)) frames table.fits;
    none_past = λ p past. let none = table.none_past p past in (none.0, marked_none p none.1);
    held_blocks = table.held_blocks;
    differ = table.differ;
  }

  pub marked_needs : (kept : ℕ → Bool) (p : ℕ) → needs_block kept (record m { frames = t }) p ≡ needs_block kept m p
  marked_needs kept p = ap (λ x. x && (block_at m p == 0 || kept (block_at m p))) (marked_changed (page_at m.frames p) (page_at t p) (marked p))

  marked_written : (kept : ℕ → Bool) (free p : ℕ) → IsWritten kept free (record m { frames = t }) p ↔ IsWritten kept free m p
  marked_written kept free p =
      let changed = marked_changed (page_at m.frames p) (page_at t p) (marked p) in
      let needs = marked_needs kept p in (
        λ w. record { changed = sym changed ∙ w.changed; block = λ need. w.block (needs ∙ need) },
        λ w. record { changed = changed ∙ w.changed; block = λ need. w.block (sym needs ∙ need) },
      )

  pub marked_pages : (kept : ℕ → Bool) (m' : PagedMemory) → t.frames ≡ m.frames.frames → KeepsPages kept (record m { frames = t }) m' → KeepsPages kept m m'
  marked_pages kept m' frames pages = record {
    same_tag = pages.same_tag;
    same_pages = pages.same_pages;
    same_frames = pages.same_frames ∙ frames;
    same_blocks = λ p none. pages.same_blocks p (marked_needs kept p ∙ none);
    none_changed = λ p e. sym (marked_changed (page_at m.frames p) (page_at t p) (marked p)) ∙ pages.none_changed p e;
  }

-- only the frames differ from where the first call began
pub keeps_from : {B : Type 0} (tells : Type 0) (held kept : B → ℕ → Bool) (words : B → ℕ → List ℕ) (m m' : PagedMemory) (t t' : FrameTable) (b b' : B) → Keeps tells held kept words (record m { frames = t }) m' b b' → Keeps tells held kept words m (record m' { frames = t' }) b b'
keeps_from tells held kept words m m' t t' b b' k = record {
  same_kept = k.same_kept;
  held_stay = k.held_stay;
  no_others = k.no_others;
  held_words = k.held_words;
  kept_words = k.kept_words;
  news = k.news;
}

-- THE PAGE LEAVES

module _ (m : PagedMemory) (t : FrameTable) (page : ℕ) (there : IsResident m.frames page) (unchanged : changed_at m.frames page ≡ false) (removes : Removes page m.frames t) where
  without : t.pages ≡ set m.frames.pages page None
  without = ap (λ (x : FrameTable). x.pages) removes.is

  within : page < length m.frames.pages
  within = resident_within m.frames page there

  pub gone_here : page_at t page ≡ None
  gone_here = at_page m.frames t page None within without

  gone_other : (p : ℕ) → p ≢ page → page_at t p ≡ page_at m.frames p
  gone_other p differs = at_other m.frames t page p None differs without

  pub gone_none : (p : ℕ) → page_at m.frames p ≡ None → page_at t p ≡ None
  gone_none p none = elim (cases_eq p page) [
    | inl same ↦ ap (page_at t) same ∙ gone_here
    | inr differs ↦ gone_other p differs ∙ none
  ]

  fewer : resident_count t + 1 ≡ resident_count m.frames
  fewer =
      let r = resident_is (page_at m.frames page) there in
      ap (λ ps. count_by is_some ps + 1) without ∙ count-set_gone m.frames.pages page within r.0 r.1

  frames_same : t.frames ≡ m.frames.frames
  frames_same = ap (λ (x : FrameTable). x.frames) removes.is

  pub gone_stands : (s : Supply) (words : ℕ → List ℕ) → AreCleanTrue s words m → Stands s words words m (record m { frames = t })
  gone_stands s words = stands s words words m (record m { frames = t }) each
    where
      each : (p : ℕ) → Same s words words m (record m { frames = t }) p
      each p = elim (cases_eq p page) [
        | inl same ↦
            let r = resident_is (page_at m.frames page) there in
            subst (λ q. Same s words words m (record m { frames = t }) q) (sym same)
            (removed s words words m (record m { frames = t }) page refl r.0 refl r.1 (sym (ap resident_changed r.1) ∙ unchanged) gone_here refl)
        | inr differs ↦
            untouched s words words m (record m { frames = t }) p refl refl (ap unmarked (gone_other p differs)) (λ _ _. refl)
      ]

  pub gone_table : (held : ℕ → Bool) → IsSoundTable held m → IsSoundTable held (record m { frames = t })
  gone_table held table = record {
    few = table.few;
    len = table.len;
    fits = (let one = fewer in omega (arith, one, frames_same, table.fits));
    none_past = λ p past. let none = table.none_past p past in (none.0, gone_none p none.1);
    held_blocks = table.held_blocks;
    differ = table.differ;
  }

  pub gone_pages : (kept : ℕ → Bool) (from : PagedMemory) → KeepsPages kept from m → KeepsPages kept from (record m { frames = t })
  gone_pages kept from pages = record {
    same_tag = pages.same_tag;
    same_pages = pages.same_pages;
    same_frames = frames_same ∙ pages.same_frames;
    same_blocks = pages.same_blocks;
    none_changed = λ p e. elim (cases_eq p page) [
      | inl same ↦ let clash : true ≡ false = sym e ∙ ap (changed_at t) same ∙ ap resident_changed gone_here in absurd (cc clash)
      | inr differs ↦ pages.none_changed p (sym (ap resident_changed (gone_other p differs)) ∙ e)
    ];
  }

  -- its frame is empty then
  pub room_made : resident_count m.frames ≤ m.frames.frames → HasEmptyFrame t
  room_made fits = let one = fewer in omega (arith, one, frames_same, fits)

-- THE WHOLE

pub chooses_from :
    {T : Type 0} (m m' : PagedMemory) (t : FrameTable) (kept : ℕ → Bool) (free : ℕ) (was_shut : Bool) (page : ℕ) (result : Result T PageFault) → IsVictim page m.frames t → IsResident m.frames page
    → OnOk result (page_at m'.frames page ≡ None)
    → ((p : ℕ) → p ≢ page → IsResident m.frames p → IsResident m'.frames p)
    → (IsErrOf result (fault.NoBlocks (record { need = 1; free = 0 })) ↔ ((needs_block kept (record m { frames = t }) page ≡ true) × (free ≡ 0)))
    → (IsErrOf result (fault.NoBlocks (record { need = 1; free = 0 })) → m' ≡ record m { frames = t })
    → (IsErrOf result fault.Shut ↔ ((was_shut ≡ true) × IsWritten kept free (record m { frames = t }) page))
    → Chooses kept free was_shut ⊥ m m' result
chooses_from m m' t kept free was_shut page result is there gone stay exact turned shut =
    let written = marked_written m t is.same_pages kept free page in
    record {
      victim = page;
      after = t;
      is = is;
      was_there = there;
      gone = gone;
      others_stay = stay;
      exact = (
        λ none. let both = exact.0 none in (sym (marked_needs m t is.same_pages kept page) ∙ both.0, both.1),
        λ both. exact.1 (marked_needs m t is.same_pages kept page ∙ both.0, both.1),
      );
      turned = turned;
      shut = (
        λ e. let both = shut.0 e in (both.0, inl (written.0 both.1)),
        λ both. elim both.1 [
          | inl w ↦ shut.1 (both.0, written.1 w)
          | inr never ↦ absurd never
        ],
      );
    }

-- what is taken of a resident page is something
pub on_taken : {P : Type 0} (o : Option Resident) (r : Option (List ℕ × Bool)) → r ≡ page_taken o → IsSome o → OnSome r P → P
on_taken None r e there p = let clash : IsSome {T = Resident} None = there in absurd (cc clash)
on_taken (Some x) None e there p = absurd (cc e)
on_taken (Some x) (Some y) e there p = p

module _ {B : Type 0} (tells : Type 0) (held kept : B → ℕ → Bool) (words : B → ℕ → List ℕ) (m : PagedMemory) (t : FrameTable) (page : ℕ) (is : IsVictim page m.frames t) (resident : IsResident m.frames page) (b b' : B) (m' : PagedMemory) where
  abbrev marked : PagedMemory
  marked = record m { frames = t }

  pub stands_saved : (tells → (s : Supply) → AreCleanTrue s (words b) marked → Stands s (words b) (words b') marked m') → tells → (s : Supply) → AreCleanTrue s (words b) m → Stands s (words b) (words b') m m'
  stands_saved saved ts s clean =
      let first = marked_stands m t is.same_pages s (words b) clean in
      stands_trans s (words b) (words b) (words b') m marked m' first (saved ts s first.clean)

  pub pages_saved : KeepsPages (kept b) marked m' → KeepsPages (kept b) m m'
  pages_saved pages = marked_pages m t is.same_pages (kept b) m' is.same_frames pages

  -- the page was saved, and leaves
  module _ (saves : Saves page marked m') (t' : FrameTable) (removes : Removes page m'.frames t') where
    there : IsResident m'.frames page
    there = saves.residents page ∙ marked_some m t is.same_pages page resident

    pub left_stands : (tells → (s : Supply) → AreCleanTrue s (words b) marked → Stands s (words b) (words b') marked m') → tells → (s : Supply) → AreCleanTrue s (words b) m → Stands s (words b) (words b') m (record m' { frames = t' })
    left_stands saved ts s clean =
        let before = stands_saved saved ts s clean in
        stands_trans s (words b) (words b') (words b') m m' (record m' { frames = t' }) before (gone_stands m' t' page there saves.unchanged removes s (words b') before.clean)

    pub left_table : IsSoundTable (held b') m' → IsSoundTable (held b') (record m' { frames = t' })
    left_table = gone_table m' t' page there saves.unchanged removes (held b')

    pub left_pages : KeepsPages (kept b) marked m' → KeepsPages (kept b) m (record m' { frames = t' })
    left_pages pages = gone_pages m' t' page there saves.unchanged removes (kept b) m (pages_saved pages)

    pub left_room : IsSoundTable (held b') m' → HasEmptyFrame t'
    left_room table = room_made m' t' page there saves.unchanged removes table.fits

    pub left_here : page_at t' page ≡ None
    left_here = gone_here m' t' page there saves.unchanged removes

    pub left_others : (p : ℕ) → p ≢ page → IsResident m.frames p → IsResident t' p
    left_others p differs was =
        ap is_some (gone_other m' t' page there saves.unchanged removes p differs) ∙ saves.residents p ∙ marked_some m t is.same_pages p was

    pub left_gone : AllStay m (record m' { frames = t' }) → ⊥
    left_gone stay = let clash : true ≡ false = sym (stay page resident) ∙ ap is_some left_here in cc clash

    pub left_absent : (p : ℕ) → page_at m.frames p ≡ None → page_at t' p ≡ None
    left_absent p none = gone_none m' t' page there saves.unchanged removes p (not_some _ (saves.residents p ∙ ap is_some (marked_none m t is.same_pages p none)))

    pub left_blocks : (p : ℕ) → page_at m.frames p ≡ None → block_at m' p ≡ block_at m p
    left_blocks p none = (saves.others p (λ same. let clash : true ≡ false = sym resident ∙ ap (λ q. is_some (page_at m.frames q)) (sym same) ∙ ap is_some none in cc clash)).1
