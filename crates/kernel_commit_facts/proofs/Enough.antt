-- In a run too few blocks are free only where the image lacks blocks.
use Rattle.std.proofs.Common.{◌≡◌, inl, inr, ℕ, zero, suc, ◌+◌, ◌*◌, ◌<◌, ◌≤◌, Bool, true, false, ◌&&◌, ◌||◌, ◌==◌, if◌then◌else◌, List, [], ◌∷◌, length, slice_get, take, get_or, Option, Some, None, refl, sym, ap, subst, arith}
use Rattle.std.specs.List.{sum_by}
use Rattle.std.proofs.Math.Seq.{take-length}
use Rattle.std.proofs.lemmas.Bool.{cases_lt}
use Rattle.std.proofs.lemmas.List.Sums.{sum_by_more, sum_by_push}
use Rattle.std.proofs.lemmas.Option.{slice_get-get_or, slice_get_within}
use Rattle.edge_disk.specs.declared.disk.Disk.{Ghosts}
use Rattle.edge_disk.specs.declared.disk.NoBlocks.{NoBlocks}
use Rattle.data_frames.specs.FrameTable.{resident_changed}
use Rattle.base_types.specs.Edges.{upto}
use Rattle.image_facts.specs.model_kernel.State.{KernelState, Supply}
use Rattle.table_steps.specs.cell_calls.Besides.{memory_of}
use Rattle.table_steps.specs.act_alone.declared.loci.Head.{Head}
use Rattle.table_steps.specs.act_alone.declared.loci.Locus.{Locus}
use Rattle.table_steps.specs.page_memory.declared.paged.PagedMemory.{PagedMemory}
use Rattle.table_steps.specs.page_memory.Words.{IsSoundTable, block_at, need_below, needs_block}
use Rattle.table_steps.specs.cell_states.declared.cells.Cell.{Cell}
use Rattle.table_steps.specs.cell_states.declared.cells.Part.{Part}
use Rattle.table_steps.specs.cell_states.declared.cells.Part.TheVariants as part
use Rattle.table_steps.specs.cell_states.declared.cells.Storage.{Storage}
use Rattle.table_steps.specs.cell_states.Cells.{container_cell, locus_cell, part_of}
use Rattle.table_steps.specs.cell_blobs.Blobs.{IsFormed, blob_need, is_recorded, need_in, page_need}
use Rattle.table_steps.specs.cell_blob_laws.Memories.{HasOwnMemory, IsOwn, pages_of}
use Rattle.table_steps.proofs.cell_blob_laws_lemmas.FewBlocks.{part_few}
use Rattle.table_steps.specs.table_laws.Tables.{HasKind, IsOrderly, blocks_by, entity_in, memory_at, state_in, tables_in}
use Rattle.kernel_book_laws.specs.kernel_record_facts.Cells.{words_on}
use Rattle.kernel_book_laws.specs.store_facts.State.{books}
use Rattle.kernel_book_laws.specs.store_books.Books.{free_in, kept_names}
use Rattle.kernel_book_laws.specs.kernel_invariant.Beginnings.{Beginning, run_of, state_after}
use Rattle.kernel_book_laws.specs.kernel_block_laws.Room.{AreTablesWithin, all_born, all_pages, enough_blocks, named_in, pages_in}
use Rattle.kernel_book_laws.proofs.kernel_block_laws_lemmas.Enough.{room_enough}
use Rattle.kernel_book_laws.proofs.kernel_block_laws_lemmas.Kept.{all_rooms}
use Rattle.kernel_book_laws.proofs.kernel_block_laws_lemmas.Widths.{cell_room}
use Rattle.kernel_book_laws.specs.kernel_views.Views.{view_of}
use Rattle.kernel_commit_facts.specs.Lacking.{LacksBlocks}
use Rattle.kernel_commit_facts.specs.Parts.{Parts, StandsAs}
use Rattle.kernel_commit_facts.specs.Recording.{IsShort}
use Rattle.kernel_commit_facts.specs.Stabilising.{needs_in}
use Rattle.table_steps.proofs.cell_blobs_lemmas.BlobSizes.{blob_few}
use Rattle.table_steps.proofs.table_laws_lemmas.Needs.{formed_at, one_within}

-- A PART NEEDS no more than its entity's pages and eight blocks

module _ (held kept : ℕ → Bool) (m : PagedMemory) (sound : IsSoundTable held m) where
  unneeded : (page : ℕ) → m.pages ≤ page → needs_block kept m page ≡ false
  unneeded page past = ap (λ o. resident_changed o && (block_at m page == 0 || kept (block_at m page))) (sound.none_past page past).1

  one_most : (t : Bool) → (if t then 1 else 0) ≤ 1
  one_most true = omega arith
  one_most false = omega arith

  needed_below : (n : ℕ) → (need_below kept m n ≤ n) × (need_below kept m n ≤ m.pages)
  unfolding need_below
  needed_below zero = (omega arith, omega arith)
  needed_below (suc n) = elim (cases_lt n m.pages) as (λ _. (need_below kept m (suc n) ≤ suc n) × (need_below kept m (suc n) ≤ m.pages)) [
    | inl low ↦ (let rest = (needed_below n).0 in let one = one_most (needs_block kept m n) in (omega (arith, rest, one, low), omega (arith, rest, one, low)))
    | inr past ↦
        (let rest = (needed_below n).0 in
        let within = (needed_below n).1 in
        let none : (if needs_block kept m n then 1 else 0) ≡ 0 = ap {B = ℕ} (λ (t : Bool). if t then 1 else 0) (unneeded n past) in
        (omega (arith, rest, none), omega (arith, within, none)))
  ]

module _ (held kept : ℕ → Bool) (s : Supply) (words : ℕ → List ℕ) where
  storage_room : (m : PagedMemory) (o : Option Head) → IsOwn m o → IsSoundTable held m → (blob : ℕ) → blob ≤ 8 → (o ≡ None → blob ≡ 0) → need_below kept m 256 + blob ≤ cell_room (container_cell s words m o)
  storage_room m None own sound blob few none = let pages = (needed_below held kept m sound 256).1 in let zero_is = none refl in omega (arith, pages, own, zero_is)
  storage_room m (Some h) own sound blob few none = let pages = (needed_below held kept m sound 256).1 in let same = own.pages in omega (arith, pages, same, few)

  locus_room : (o : Option Locus) → blob_need (part.Locus o) ≤ 8 → 0 + blob_need (part.Locus o) ≤ cell_room (locus_cell o)
  locus_room None few = omega arith
  locus_room (Some l) few = omega (arith, few)

  no_blob : (b : Storage) → b.head ≡ None → blob_need (part.Container b) ≡ 0
  no_blob b none = ap (λ q. blob_need (part.Container (record b { head = q }))) none

  part_room : (p : Part) → HasOwnMemory held p → IsFormed p → page_need kept p + blob_need p ≤ cell_room (part_of s words p)
  part_room (part.Atlas a) own formed = let few = blob_few (part.Atlas a) formed in omega (arith, few)
  part_room (part.Container b) own formed = storage_room b.memory b.head own.0 own.1 (blob_need (part.Container b)) (blob_few (part.Container b) formed) (no_blob b)
  part_room (part.Locus o) own formed = locus_room o (blob_few (part.Locus o) formed)

  need_room : (c : Cell) → HasOwnMemory held c.part → IsFormed c.part → need_in kept c ≤ cell_room (part_of s words c.part)
  need_room c own formed = by_test (is_recorded c)
    where
      by_test : (t : Bool) → (if t then 0 else page_need kept c.part + blob_need c.part) ≤ cell_room (part_of s words c.part)
      by_test true = omega arith
      by_test false = part_room c.part own formed

-- ALL CELLS together

along : (f : Cell → ℕ) (g : ℕ → ℕ) (cs : List Cell) (d : Cell) → ((x : ℕ) (c : Cell) → slice_get cs x ≡ Some c → f c ≤ g x) → (n : ℕ) → n ≤ length cs → sum_by f (take n cs) ≤ sum_by g (upto n)
along f g cs d less zero le = omega arith
along f g cs d less (suc n) le =
    let one : suc n ≡ n + 1 = omega arith in
    let same = ap (λ m. sum_by f (take m cs)) one in
    let more = sum_by_more f cs n d (omega (arith, le)) in
    let push = sum_by_push g (upto n) n in
    let here = less n (get_or cs n d) (slice_get-get_or cs n d (omega (arith, le))) in
    let rest = along f g cs d less n (omega (arith, le)) in
    omega (arith, same, more, push, here, rest)

sum_within : (f : Cell → ℕ) (g : ℕ → ℕ) (cs : List Cell) → length cs ≡ 64 → ((x : ℕ) (c : Cell) → slice_get cs x ≡ Some c → f c ≤ g x) → sum_by f cs ≤ sum_by g (upto 64)
sum_within f g [] len less = absurd (omega (arith, len))
sum_within f g (c ∷ cs) len less =
    let le = along f g (c ∷ cs) c less (length (c ∷ cs)) (omega arith) in
    let all = ap (sum_by f) (take-length (c ∷ cs)) in
    let many = ap (λ n. sum_by g (upto n)) len in
    omega (arith, le, all, many)

first_of : (cs : List Cell) → length cs ≡ 64 → (c : Cell) × (slice_get cs 0 ≡ Some c)
first_of [] len = absurd (omega (arith, len))
first_of (c ∷ cs) len = (c, refl)

first_within : (g : ℕ → ℕ) (n : ℕ) → g 0 ≤ sum_by g (upto (suc n))
first_within g zero = let push = sum_by_push g (upto 0) 0 in omega (arith, push)
first_within g (suc n) = let rest = first_within g n in let push = sum_by_push g (upto (suc n)) (suc n) in omega (arith, rest, push)

module _ (held : ℕ → Bool) (cs : List Cell) (ord : IsOrderly held cs) (s : Supply) (words : ℕ → List ℕ) where
  abbrev w : KernelState
  w = state_in s words cs

  pub needs_room : (kept : ℕ → Bool) → needs_in kept cs ≤ all_pages w + 8 * all_born w
  needs_room kept =
      let sum = sum_within (need_in kept) (λ x. cell_room (w x).cell) cs ord.numbers.len
      (λ x c at. subst (λ o. need_in kept c ≤ cell_room (entity_in s words x o).cell) (sym at) (need_room held kept s words c (ord.own x c at) (formed_at held cs x c ord at))) in
      let rooms = all_rooms w in
      omega (arith, sum, rooms)

  -- the atlas has room, for it is born
  pub atlas_room : 8 ≤ all_pages w + 8 * all_born w
  atlas_room =
      let at = first_of cs ord.numbers.len in
      let one = first_within (λ x. cell_room (w x).cell) 63 in
      let room : 8 ≤ cell_room (w 0).cell = subst (λ o. 8 ≤ cell_room (entity_in s words 0 o).cell) (sym at.1) (by_kind at.0.part (ord.kinds 0 at.0 at.1)) in
      let rooms = all_rooms w in
      omega (arith, one, room, rooms)
    where
      by_kind : (p : Part) → HasKind 0 p → 8 ≤ cell_room (part_of s words p)
      by_kind (part.Atlas a) kind = omega arith
      by_kind (part.Container b) kind = absurd (let some = kind.0 in omega (arith, some))
      by_kind (part.Locus l) kind = absurd (omega (arith, kind))

  named_within : (x : ℕ) (o : Option Cell) → slice_get cs x ≡ o → named_in (blocks_by (memory_at o)) ≤ pages_in (entity_in s words x o).cell
  named_within x None at = omega arith
  named_within x (Some c) at = by_part c.part (ord.own x c at)
    where
      by_head : (m : PagedMemory) (o : Option Head) (n : ℕ) → n ≤ pages_of o → n ≤ pages_in (container_cell s words m o)
      by_head m None n le = le
      by_head m (Some h) n le = le

      by_part : (p : Part) → HasOwnMemory held p → named_in (blocks_by (memory_of p)) ≤ pages_in (part_of s words p)
      by_part (part.Atlas a) own = omega arith
      by_part (part.Container b) own = by_head b.memory b.head (named_in b.memory.table) (part_few held (part.Container b) own)
      by_part (part.Locus l) own = omega arith

  none_beyond : (x : ℕ) (o : Option Cell) → slice_get cs x ≡ o → 64 ≤ x → blocks_by (memory_at o) ≡ []
  none_beyond x None at past = refl
  none_beyond x (Some c) at past = absurd (let lt = slice_get_within cs x c at in let len = ord.numbers.len in omega (arith, lt, len, past))

  pub tables_within : AreTablesWithin w (tables_in cs)
  tables_within x = (named_within x (slice_get cs x) refl, none_beyond x (slice_get cs x) refl)

-- IN A RUN

module _ {D : Type 0} (disks : Ghosts D) (b : Beginning) (p : Parts D) (told : disks.tells)
    (st : StandsAs disks b p) (whole : (run_of b p.noted.entries).short ≡ false) where
  abbrev state : KernelState
  state = state_after b p.noted.entries

  follows : state_in b.supply (words_on (disks.reading p.store.disk)) p.cells ≡ state
  follows = st.runs.follows.state

  pub free_enough : enough_blocks state ≤ (books p.store).count → all_pages state + 8 * all_born state ≤ free_in (books p.store)
  free_enough enough =
      room_enough b disks (view_of disks.reading b p.cells p.store p.noted.entries p.noted.marks None) p.store.disk st.runs.begins st.runs.legal (st.runs.stored told refl)
      (subst (λ (v : KernelState). AreTablesWithin v (tables_in p.cells)) follows (tables_within (books p.store).held p.cells st.orderly b.supply (words_on (disks.reading p.store.disk))))
      whole enough

  pub lacks_blocks : free_in (books p.store) < needs_in (kept_names (books p.store)) p.cells → LacksBlocks b p
  lacks_blocks fewer = elim (cases_lt (books p.store).count (enough_blocks state)) as (λ _. LacksBlocks b p) [
    | inl lacks ↦ lacks
    | inr enough ↦ absurd (
        let free = free_enough enough in
        let needs : needs_in (kept_names (books p.store)) p.cells ≤ all_pages state + 8 * all_born state =
        subst (λ (v : KernelState). needs_in (kept_names (books p.store)) p.cells ≤ all_pages v + 8 * all_born v) follows (needs_room (books p.store).held p.cells st.orderly b.supply (words_on (disks.reading p.store.disk)) (kept_names (books p.store))) in
        omega (arith, free, needs, fewer))
  ]

  pub short_lacks : (x : ℕ) (n : NoBlocks) → IsShort disks x p n → LacksBlocks b p
  short_lacks x n short =
      lacks_blocks (let one = one_within (need_in (kept_names (books p.store))) p.cells x short.cell short.at in let lt = short.short.fewer in omega (arith, one, lt))

  -- nor is none free, since the atlas is born
  pub none_lacks : free_in (books p.store) ≡ 0 → LacksBlocks b p
  none_lacks none = elim (cases_lt (books p.store).count (enough_blocks state)) as (λ _. LacksBlocks b p) [
    | inl lacks ↦ lacks
    | inr enough ↦ absurd (
        let free = free_enough enough in
        let some : 8 ≤ all_pages state + 8 * all_born state =
        subst (λ (v : KernelState). 8 ≤ all_pages v + 8 * all_born v) follows (atlas_room (books p.store).held p.cells st.orderly b.supply (words_on (disks.reading p.store.disk))) in
        omega (arith, free, some, none))
  ]
