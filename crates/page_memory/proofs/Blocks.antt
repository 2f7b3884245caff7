-- A page is saved: its words go to its own block, or to a new one, or the write fails. No word changes.
use Rattle.std.proofs.Common.{◌≡◌, ◌≢◌, ℕ, ◌<◌, ◌≤◌, Bool, true, false, ◌||◌, List, length, set, is_some, Option, Some, None, IsSome, IsTrue, refl, sym, ap, ◌∙◌, inl, inr, subst, arith}
use Rattle.std.proofs.lemmas.Bool.{cases_eq, or_left, or_right}
use Rattle.std.proofs.lemmas.List.{get_or-set_same, get_or-set_other, length-set}
use Rattle.page_store.specs.model_kernel.State.{Supply}
use Rattle.data_frames.specs.FrameTable.{FrameTable, Resident, changed_at, page_at, resident_count, resident_words, unmarked, used_at, words_at}
use Rattle.data_frames.proofs.Pages.{not_some}
use Rattle.page_memory.specs.declared.paged.PagedMemory.{PagedMemory}
use Rattle.page_memory.specs.Words.{block_at, AreCleanTrue, IsSoundTable}
use Rattle.page_memory.specs.Calls.{IsOfTable, Keeps, Moves, Stands}
use Rattle.page_memory.proofs.Pages.{Same, at_other, at_page, changed_resident, fits_same, resident_within, saved, stands, untouched}

pub resident_is : (o : Option Resident) → IsSome o → (r : Resident) × (o ≡ Some r)
resident_is None e = let clash : IsSome {T = Resident} None = e in absurd (cc clash)
resident_is (Some r) e = (r, refl)

-- a resident page that isn't marked as changed, with the words and the mark of use of another
abbrev pub cleaned_page : FrameTable → ℕ → Option Resident
cleaned_page t page = Some (record { words = words_at t page; changed = false; used = used_at t page })

module _ {B : Type 0} (tells : Type 0) (held kept : B → ℕ → Bool) (words : B → ℕ → List ℕ) (m : PagedMemory) (b b' : B) (page : ℕ) (table : IsSoundTable (held b) m) (changed : changed_at m.frames page ≡ true) (same_kept : kept b' ≡ kept b) (same_words : tells → (n : ℕ) → IsTrue (held b n || kept b n) → (block_at m page ≢ 0 → n ≡ block_at m page → kept b n ≡ true) → words b' n ≡ words b n) where
  -- the blocks of the other pages keep their words
  other_page : tells → (p : ℕ) → p ≢ page → block_at m p ≢ 0 → words b' (block_at m p) ≡ words b (block_at m p)
  other_page t p differs some = same_words t (block_at m p) (or_left _ _ (table.held_blocks p some)) (λ _ e. absurd (differs (table.differ p page some e)))

  -- a block outside the table isn't the page's
  not_mine : (n : ℕ) → (IsOfTable m n → ⊥) → block_at m page ≢ 0 → n ≡ block_at m page → ⊥
  not_mine n out some e = out (λ z. some (sym e ∙ z), (page, sym e))

  held_words_kept : tells → (n : ℕ) → held b n ≡ true → (IsOfTable m n → ⊥) → words b' n ≡ words b n
  held_words_kept t n h out = same_words t n (or_left _ _ h) (λ some e. absurd (not_mine n out some e))

  kept_words_kept : tells → (n : ℕ) → kept b n ≡ true → words b' n ≡ words b n
  kept_words_kept t n k = same_words t n (or_right _ _ k) (λ _ _. k)

  there_before : IsSome (page_at m.frames page)
  there_before = changed_resident (page_at m.frames page) changed

  module _ (t' : FrameTable) (is : t'.pages ≡ set m.frames.pages page (cleaned_page m.frames page)) where
    cleaned_same : (p : ℕ) → is_some (page_at t' p) ≡ is_some (page_at m.frames p)
    cleaned_same p = elim (cases_eq p page) [
      | inl same ↦
          ap (λ q. is_some (page_at t' q)) same ∙ ap is_some (at_page m.frames t' page (cleaned_page m.frames page) (resident_within m.frames page there_before) is)
          ∙ sym there_before
          ∙ sym (ap (λ q. is_some (page_at m.frames q)) same)
      | inr differs ↦ ap is_some (at_other m.frames t' page p _ differs is)
    ]

    cleaned_none : (p : ℕ) → page_at m.frames p ≡ None → page_at t' p ≡ None
    cleaned_none p none = not_some (page_at t' p) (cleaned_same p ∙ ap is_some none)

    cleaned_fits : t'.frames ≡ m.frames.frames → resident_count t' ≤ t'.frames
    cleaned_fits frames = fits_same m.frames t' cleaned_same frames table.fits

  module _ (same_held : held b' ≡ held b) where
    -- the page was written to its own block
    module _ (t' : FrameTable) (is : t'.pages ≡ set m.frames.pages page (cleaned_page m.frames page)) where
      pub own_table : t'.frames ≡ m.frames.frames → IsSoundTable (held b') (record m { frames = t' })
      own_table frames = record {
        few = table.few;
        len = table.len;
        fits = cleaned_fits t' is frames;
        none_past = λ p past. let none = table.none_past p past in (none.0, cleaned_none t' is p none.1);
        held_blocks = λ p some. ap (λ (h : ℕ → Bool). h (block_at m p)) same_held ∙ table.held_blocks p some;
        differ = table.differ;
      }

      pub own_stands : block_at m page ≢ 0 → (tells → words b' (block_at m page) ≡ words_at m.frames page) → tells → (s : Supply) → AreCleanTrue s (words b) m → Stands s (words b) (words b') m (record m { frames = t' })
      own_stands some written t s = stands s (words b) (words b') m (record m { frames = t' }) each
        where
          mine : Same s (words b) (words b') m (record m { frames = t' }) page
          mine =
              let there = resident_is (page_at m.frames page) (changed_resident (page_at m.frames page) changed) in
              let same : words_at m.frames page ≡ there.0.words = ap resident_words there.1 in
              saved s (words b) (words b') m (record m { frames = t' }) page refl there.0 _ there.1 (at_page m.frames t' page (cleaned_page m.frames page) (resident_within m.frames page (changed_resident (page_at m.frames page) changed)) is) same some (written t ∙ same)

          each : (p : ℕ) → Same s (words b) (words b') m (record m { frames = t' }) p
          each p = elim (cases_eq p page) [
            | inl same ↦ subst (λ q. Same s (words b) (words b') m (record m { frames = t' }) q) (sym same) mine
            | inr differs ↦
                untouched s (words b) (words b') m (record m { frames = t' }) p refl refl (ap unmarked (at_other m.frames t' page p _ differs is)) (λ block _. other_page t p differs block)
          ]

  -- the page was written to a new block
  module _ (t' : FrameTable) (is : t'.pages ≡ set m.frames.pages page (cleaned_page m.frames page)) (fresh : ℕ) (moves : Moves (held b) (kept b) (held b') (block_at m page) fresh) (in_table : page < 256) where
    within : page < length m.table
    within = omega (arith, table.len)

    abbrev moved : PagedMemory
    moved = record m { frames = t'; table = set m.table page fresh }

    block_here : block_at moved page ≡ fresh
    block_here = get_or-set_same m.table page fresh 0 within

    block_there : (p : ℕ) → p ≢ page → block_at moved p ≡ block_at m p
    block_there p differs = get_or-set_other m.table page p fresh 0 differs

    -- a block that was held isn't the new one
    not_fresh : (n : ℕ) → held b n ≡ true → n ≢ fresh
    not_fresh n h same = let clash : true ≡ false = sym h ∙ ap (held b) same ∙ moves.was_free in absurd (cc clash)

    pub fresh_table : t'.frames ≡ m.frames.frames → IsSoundTable (held b') (record m { frames = t'; table = set m.table page fresh })
    fresh_table frames = record {
      few = table.few;
      len = length-set m.table page fresh ∙ table.len;
      fits = cleaned_fits t' is frames;
      none_past = λ p past.
          let none = table.none_past p past in
          let apart : p ≢ page = λ same. (let clash : true ≡ false = sym there_before ∙ ap (λ q. is_some (page_at m.frames q)) (sym same) ∙ ap is_some none.1 in cc clash) in
          (block_there p apart ∙ none.0, cleaned_none t' is p none.1);
      held_blocks = λ p some. elim (cases_eq p page) [
        | inl same ↦ ap (held b') (ap (block_at moved) same ∙ block_here) ∙ moves.is_held
        | inr apart ↦ other_held p apart (λ z. some (block_there p apart ∙ z))
      ];
      differ = λ p q some same. elim (cases_eq p page) [
        | inl p_is ↦ elim (cases_eq q page) [
          | inl q_is ↦ p_is ∙ sym q_is
          | inr q_apart ↦ absurd (no_other q q_apart (sym (block_there q q_apart) ∙ sym same ∙ ap (block_at moved) p_is ∙ block_here))
        ]
        | inr p_apart ↦ elim (cases_eq q page) [
          | inl q_is ↦ absurd (no_other p p_apart (sym (block_there p p_apart) ∙ same ∙ ap (block_at moved) q_is ∙ block_here))
          | inr q_apart ↦ table.differ p q (λ z. some (block_there p p_apart ∙ z)) (sym (block_there p p_apart) ∙ same ∙ block_there q q_apart)
        ]
      ];
    }
      where
        other_held : (p : ℕ) → p ≢ page → block_at m p ≢ 0 → held b' (block_at moved p) ≡ true
        other_held p apart some =
            let was = table.held_blocks p some in
            ap (held b') (block_there p apart) ∙ moves.others (block_at m p) (not_fresh (block_at m p) was) (λ _ e. apart (table.differ p page some e)) ∙ was

        -- no other page's block is the new one
        no_other : (p : ℕ) → p ≢ page → block_at m p ≡ fresh → ⊥
        no_other p apart same = not_fresh (block_at m p) (table.held_blocks p (λ z. moves.some (sym same ∙ z))) same

    pub fresh_stands : (tells → words b' fresh ≡ words_at m.frames page) → tells → (s : Supply) → AreCleanTrue s (words b) m → Stands s (words b) (words b') m (record m { frames = t'; table = set m.table page fresh })
    fresh_stands written t s = stands s (words b) (words b') m moved each
      where
        mine : Same s (words b) (words b') m moved page
        mine =
            let there = resident_is (page_at m.frames page) (changed_resident (page_at m.frames page) changed) in
            let same : words_at m.frames page ≡ there.0.words = ap resident_words there.1 in
            saved s (words b) (words b') m moved page refl there.0 _ there.1 (at_page m.frames t' page (cleaned_page m.frames page) (resident_within m.frames page (changed_resident (page_at m.frames page) changed)) is) same (λ z. moves.some (sym block_here ∙ z)) (ap (words b') block_here ∙ written t ∙ same)

        each : (p : ℕ) → Same s (words b) (words b') m moved p
        each p = elim (cases_eq p page) [
          | inl same ↦ subst (λ q. Same s (words b) (words b') m moved q) (sym same) mine
          | inr differs ↦
              untouched s (words b) (words b') m moved p refl (block_there p differs) (ap unmarked (at_other m.frames t' page p _ differs is)) (λ block _. other_page t p differs block)
        ]

    pub fresh_keeps : Keeps tells held kept words m (record m { frames = t'; table = set m.table page fresh }) b b'
    fresh_keeps = record {
      same_kept = same_kept;
      held_stay = λ n h out. (
        moves.others n (not_fresh n h) (λ some e. not_mine n out some e) ∙ h,
        λ of. elim (cases_eq of.1.0 page) [
          | inl same ↦ not_fresh n h (sym (of.1.1) ∙ ap (block_at moved) same ∙ block_here)
          | inr differs ↦ out (of.0, (of.1.0, sym (block_there of.1.0 differs) ∙ of.1.1))
        ],
      );
      no_others = λ n h out.
          let new : n ≢ fresh = λ e. out (λ z. moves.some (sym e ∙ z), (page, block_here ∙ sym e)) in
          let old : block_at m page ≢ 0 → n ≢ block_at m page = λ some e. (let clash : true ≡ false = sym h ∙ ap (held b') e ∙ moves.gone some in absurd (cc clash)) in (
            sym (moves.others n new old) ∙ h,
            λ of. elim (cases_eq of.1.0 page) [
              | inl same ↦ let mine : block_at m page ≡ n = sym (ap (block_at m) same) ∙ of.1.1 in old (λ z. of.0 (sym mine ∙ z)) (sym mine)
              | inr differs ↦ out (of.0, (of.1.0, block_there of.1.0 differs ∙ of.1.1))
            ],
          );
      held_words = held_words_kept;
      kept_words = kept_words_kept;
      news = λ p. elim (cases_eq p page) [
        | inl same ↦ inr (ap (λ q. kept b (block_at moved q)) same ∙ ap (kept b) block_here ∙ moves.not_kept)
        | inr differs ↦ inl (block_there p differs)
      ];
    }
