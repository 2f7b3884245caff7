-- A record of one cell leaves the blocks free that those of the others need.
use Rattle.std.proofs.Common.{◌≡◌, ◌≢◌, inl, inr, ℕ, zero, suc, ◌+◌, ◌≤◌, Bool, true, false, not, ◌&&◌, ◌||◌, ◌==◌, if◌then◌else◌, List, slice_get, slice_index, Option, Some, None, ◌↔◌, refl, sym, ap, ◌∙◌, arith, eqb-true, eq-eqb}
use Rattle.std.specs.Prelude.{Contains}
use Rattle.std.specs.List.{list_any}
use Rattle.std.proofs.lemmas.Bool.{and_parts, false≢true, or_cases}
use Rattle.std.proofs.lemmas.Map.Views.{Contains-from_any}
use Rattle.edge_disk.specs.declared.disk.Disk.{Ghosts}
use Rattle.edge_disk.specs.declared.disk.NoBlocks.{NoBlocks}
use Rattle.table_steps.specs.cell_clocks.declared.Clock.{Clock}
use Rattle.table_steps.specs.page_memory.declared.paged.PagedMemory.{PagedMemory}
use Rattle.table_steps.specs.page_memory.Words.{block_at, need_below, needs_block}
use Rattle.data_frames.specs.FrameTable.{changed_at}
use Rattle.image_facts.specs.Bodies.{blob_blocks}
use Rattle.table_steps.specs.cell_calls.Besides.{memory_of}
use Rattle.table_steps.specs.cell_states.declared.cells.Cell.{Cell}
use Rattle.table_steps.specs.cell_states.declared.cells.Part.{Part}
use Rattle.table_steps.specs.cell_states.declared.cells.Part.TheVariants as part
use Rattle.table_steps.specs.cell_states.declared.cells.Wish.{Wish}
use Rattle.table_steps.specs.cell_blobs.Blobs.{blob_need, is_recorded, need_in, page_need}
use Rattle.table_steps.specs.table_laws.Tables.{IsOrderly, blocks_by, memory_at, tables_in}
use Rattle.kernel_book_laws.specs.kernel_record_facts.Cells.{table_of}
use Rattle.kernel_book_laws.specs.store_facts.State.{books}
use Rattle.kernel_book_laws.specs.store_books.Books.{Books, Logged, free_in, kept_in, kept_names, names}
use Rattle.kernel_book_laws.specs.kernel_records.Committing.{HasCommitted}
use Rattle.kernel_book_laws.proofs.kernel_records_lemmas.Freeing.{names_then}
use Rattle.kernel_book_laws.specs.kernel_views.Views.{newest_at}
use Rattle.kernel_book_laws.proofs.kernel_views_lemmas.Behind.{order, recorded_founded}
use Rattle.kernel_book_laws.proofs.kernel_views_lemmas.Leaving.{same_table}
use Rattle.kernel_book_laws.proofs.kernel_views_lemmas.Others.{held_at, in_table}
use Rattle.kernel_book_laws.specs.Matching.{newest_of, version_at, version_of}
use Rattle.kernel_commit_facts.specs.Parts.{Parts}
use Rattle.kernel_commit_facts.specs.Recording.{HasRecorded, IsShort}
use Rattle.kernel_commit_facts.specs.Stabilising.{AreShort, NeedsFit, needs_in}
use Rattle.table_steps.proofs.table_laws_lemmas.Needs.{one_replaced, one_within}
use Rattle.kernel_book_laws.proofs.store_books_lemmas.Owners.{place_in}

abbrev pub no_shortage : Option NoBlocks
no_shortage = None

-- THE PAGES OF A MEMORY need no more where kept records name no more of its blocks

less_one : (p q : Bool) → (p ≡ true → q ≡ true) → (if p then 1 else 0) ≤ (if q then 1 else 0)
less_one true true h = omega arith
less_one true false h = absurd (false≢true (h refl))
less_one false true h = omega arith
less_one false false h = omega arith

module _ (kept kept' : ℕ → Bool) (m : PagedMemory) (less : (page : ℕ) → block_at m page ≢ 0 → kept' (block_at m page) ≡ true → kept (block_at m page) ≡ true) where
  needs_less : (page : ℕ) → needs_block kept' m page ≡ true → needs_block kept m page ≡ true
  needs_less page is = by_tests (changed_at m.frames page) (block_at m page == 0) refl is
    where
      named : (block_at m page == 0) ≡ false → kept' (block_at m page) ≡ true → kept (block_at m page) ≡ true
      named some is = less page (λ zero_is. false≢true (sym some ∙ eq-eqb (block_at m page) 0 zero_is)) is

      by_tests : (changed none : Bool) → (block_at m page == 0) ≡ none → (changed && (none || kept' (block_at m page))) ≡ true → (changed && (none || kept (block_at m page))) ≡ true
      by_tests false none e h = absurd (false≢true h)
      by_tests true true e h = refl
      by_tests true false e h = named e h

  pub below_less : (n : ℕ) → need_below kept' m n ≤ need_below kept m n
  unfolding need_below
  below_less zero = omega arith
  below_less (suc n) = let rest = below_less n in let one = less_one (needs_block kept' m n) (needs_block kept m n) (needs_less n) in omega (arith, rest, one)

-- A RECORD OF ONE CELL

module _ {D : Type 0} (disks : Ghosts D) where
  module _ (x : ℕ) (old new : Parts D) (ord : IsOrderly (books old.store).held old.cells) (r : HasRecorded disks x old new) where
    abbrev c : Cell
    c = r.made.before

    abbrev d : Cell
    d = r.made.after

    abbrev h : HasCommitted disks c d old.store new.store
    h = r.made.committed

    abbrev fl : Books
    fl = books h.leaves.flushed

    abbrev k : Logged
    k = record { rec = h.has.made.rec; table = table_of d.part }

    abbrev before : ℕ → Bool
    before = kept_names (books old.store)

    abbrev now : ℕ → Bool
    now = kept_names (books new.store)

    number : c.clock.entity ≡ x
    number = r.made.commits.number

    number_d : d.clock.entity ≡ x
    number_d = r.made.commits.lends.numbers.0 ∙ number

    at_c : slice_get old.cells x ≡ Some c
    at_c = ap (slice_get old.cells) (sym number) ∙ r.made.commits.lends.stood.0

    at_d : slice_get new.cells x ≡ Some d
    at_d = ap (slice_get new.cells) (sym number_d) ∙ r.made.commits.lends.stand.0

    again : IsOrderly (books new.store).held new.cells
    again = order disks old.cells new.cells c d old.store new.store ord r.made.commits.lends (recorded_founded c d h.recorded) h.leaves

    named_in_flushed : (n : ℕ) → kept_names fl n ≡ before n
    named_in_flushed n =
        ap (λ (f : Bool). f || list_any (names n) (kept_in fl)) h.leaves.pages.only.same_found
        ∙ ap (λ (ls : List Logged). (books old.store).found || list_any (names n) (kept_in (record fl { logged = ls }))) h.leaves.pages.only.same_logged

    -- the new record names no block of another cell
    not_new : (y page : ℕ) (m : PagedMemory) → (y ≡ x → ⊥) → memory_at (slice_get new.cells y) ≡ Some m → block_at m page ≢ 0 → names (block_at m page) k ≡ true → ⊥
    not_new y page m apart at some named =
        let n : ℕ = block_at m page in
        let both = and_parts (not (n == 0)) (list_any (λ m. m == n) (blob_blocks k.rec) || list_any (λ m. m == n) k.table) named in
        elim (or_cases (list_any (λ m. m == n) (blob_blocks k.rec)) (list_any (λ m. m == n) k.table) both.1) as (λ _. ⊥) [
          | inl blob ↦
              (let held : fl.held n ≡ true = ap (λ (f : ℕ → Bool). f n) (sym h.has.made.same_held) ∙ (held_at (books new.store).held new.cells again y (slice_get new.cells y) refl m at).held_blocks page some in
              let used : (fl.held n || kept_names fl n) ≡ true = ap (λ (t : Bool). t || kept_names fl n) held in
              false≢true (sym (h.has.made.free.fresh n (within (blob_blocks k.rec) n blob)) ∙ used))
          | inr there ↦
              (let p = place_in k.table n (within k.table n there) in
              let here : slice_index (tables_in new.cells x) p.0 ≡ n =
              ap (λ (o : Option Cell). slice_index (blocks_by (memory_at o)) p.0) at_d ∙ (sym (same_table d.part p.0) ∙ p.1) in
              let once = again.once x y p.0 page (λ zero_is. some (sym here ∙ zero_is)) (here ∙ sym (in_table (books new.store).held new.cells again y m at page)) in
              apart (sym once.0))
        ]
      where
        within : (bs : List ℕ) (n : ℕ) → list_any (λ m. m == n) bs ≡ true → Contains bs n
        within bs n there = Contains-from_any {eq = λ q m. m == q} (λ q m is. sym (eqb-true m q is)) n bs there

    memory_less : (y : ℕ) (m : PagedMemory) → (y ≡ x → ⊥) → memory_at (slice_get new.cells y) ≡ Some m → (page : ℕ) → block_at m page ≢ 0 → now (block_at m page) ≡ true → before (block_at m page) ≡ true
    memory_less y m apart at page some named =
        elim (or_cases (kept_names fl (block_at m page)) (names (block_at m page) k) (names_then fl (books new.store) k h.has.made.log h.has.made.same_found (block_at m page) named)) as (λ _. before (block_at m page) ≡ true) [
          | inl was ↦ sym (named_in_flushed (block_at m page)) ∙ was
          | inr new_one ↦ absurd (not_new y page m apart at some new_one)
        ]

    part_less : (y : ℕ) (p : Part) → (y ≡ x → ⊥) → memory_at (slice_get new.cells y) ≡ memory_of p → page_need now p ≤ page_need before p
    part_less y (part.Atlas a) apart at = omega arith
    part_less y (part.Container b) apart at = below_less before now b.memory (memory_less y b.memory apart at) 256
    part_less y (part.Locus l) apart at = omega arith

    -- the others need no more than before
    others_less : (y : ℕ) (e : Cell) → (y ≡ x → ⊥) → slice_get new.cells y ≡ Some e → need_in now e ≤ need_in before e
    others_less y e apart at = by_test (is_recorded e)
      where
        by_test : (t : Bool) → (if t then 0 else page_need now e.part + blob_need e.part) ≤ (if t then 0 else page_need before e.part + blob_need e.part)
        by_test true = omega arith
        by_test false = let less = part_less y e.part apart (ap memory_at at) in omega (arith, less)

    others_same : (y : ℕ) → (y ≡ x → ⊥) → slice_get new.cells y ≡ slice_get old.cells y
    others_same y apart = r.made.commits.lends.others y ((λ e. apart (e ∙ number)), tt)

    none_needed : need_in now d ≡ 0
    none_needed = ap (λ (t : Bool). if t then 0 else page_need now d.part + blob_need d.part) (eq-eqb d.clock.version d.wish.newest (ap (λ (q : Clock). q.version) h.recorded.same_clock ∙ sym (ap (λ (w : Wish). w.newest) h.recorded.wish)))

    was_needed : newest_of old.cells x ≢ version_of old.cells x → need_in before c ≡ page_need before c.part + blob_need c.part
    was_needed changed = ap (λ (t : Bool). if t then 0 else page_need before c.part + blob_need c.part) (by_test (is_recorded c) refl)
      where
        by_test : (t : Bool) → is_recorded c ≡ t → is_recorded c ≡ false
        by_test true is = absurd (changed (ap newest_at at_c ∙ (sym (eqb-true c.clock.version c.wish.newest is) ∙ sym (ap version_at at_c))))
        by_test false is = is

    pub still_fits : newest_of old.cells x ≢ version_of old.cells x → NeedsFit old → NeedsFit new
    still_fits changed fits =
        let sums = one_replaced (need_in before) (need_in now) old.cells new.cells x c d at_c at_d others_same others_less in
        let none = none_needed in
        let was = was_needed changed in
        let free = h.free in
        omega (arith, sums, none, was, free, fits)

  -- where all needs fit each does
  pub not_short : (x : ℕ) (p : Parts D) (n : NoBlocks) → NeedsFit p → IsShort disks x p n → ⊥
  not_short x p n fits short =
      let one = one_within (need_in (kept_names (books p.store))) p.cells x short.cell short.at in
      let lt = short.short.fewer in
      omega (arith, one, lt, fits)

  -- the answer of what asks first
  pub none_fits : (p : Parts D) (need free : ℕ) → need ≡ needs_in (kept_names (books p.store)) p.cells → free ≡ free_in (books p.store) → need ≤ free
      → (n : NoBlocks) → (no_shortage ≡ Some n) ↔ AreShort p n
  none_fits p need free need_is free_is fits n = ((λ is. absurd (cc is)), (λ few. absurd (let lt = few.fewer in omega (arith, need_is, free_is, fits, lt))))
