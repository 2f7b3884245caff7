-- Both numbers of a want of blocks are within their bounds.
use Rattle.std.proofs.Common.{◌≡◌, ◌+◌, ◌-◌, ◌*◌, ◌≤◌, ℕ, Bool, not, List, None, refl, sym, ap, subst, ◌∙◌, arith}
use Rattle.std.proofs.lemmas.List.FromFn.{length-range_with_len}
use Rattle.std.proofs.lemmas.List.Sums.{count_by-le-length}
use Rattle.std.specs.List.{range_with_len}
use Rattle.edge_disk.specs.declared.disk.Disk.{Ghosts}
use Rattle.edge_disk.specs.declared.disk.NoBlocks.{NoBlocks}
use Rattle.image_facts.specs.Layout.{pool_at}
use Rattle.image_facts.specs.model_kernel.Histories.{commits_above}
use Rattle.image_facts.specs.model_kernel.State.{KernelState}
use Rattle.table_steps.specs.cell_blobs.Blobs.{need_in}
use Rattle.table_steps.specs.table_laws.Tables.{tables_in}
use Rattle.table_steps.proofs.table_laws_lemmas.Needs.{one_within}
use Rattle.kernel_book_laws.specs.kernel_record_facts.Cells.{words_on}
use Rattle.kernel_book_laws.specs.store_facts.Shelves.{records_of}
use Rattle.kernel_book_laws.specs.store_facts.State.{books}
use Rattle.kernel_book_laws.specs.store_books.Books.{Books, free_in, is_used, kept_in, kept_names}
use Rattle.kernel_book_laws.specs.kernel_block_laws.Room.{AreTablesWithin, all_born, all_pages}
use Rattle.kernel_book_laws.proofs.kernel_block_laws_lemmas.Enough.{each_kept, room_bound}
use Rattle.kernel_book_laws.specs.kernel_invariant.Beginnings.{Beginning, completed, run_of, state_after}
use Rattle.kernel_book_laws.specs.kernel_views.Views.{view_of}
use Rattle.kernel_commit_facts.specs.Parts.{Parts, StandsAs}
use Rattle.kernel_commit_facts.specs.Recording.{IsShort}
use Rattle.kernel_commit_facts.specs.Short.{AreWithin}
use Rattle.kernel_commit_facts.specs.Stabilising.{AreShort, needs_in}
use Rattle.kernel_commit_facts.proofs.Enough.{atlas_room, needs_room, tables_within}

-- no more blocks are free than the pool has
free_few : (b : Books) → free_in b ≤ b.count - pool_at
free_few b =
    let few = count_by-le-length (λ n. not (is_used b n)) (range_with_len pool_at (b.count - pool_at)) in
    let long = length-range_with_len pool_at (b.count - pool_at) in
    omega (arith, few, long)

module _ {D : Type 0} (disks : Ghosts D) (b : Beginning) (p : Parts D) (told : disks.tells) (st : StandsAs disks b p)
    (few : (y : ℕ) → records_of y (kept_in (books p.store)) ≤ 4) (n : NoBlocks) where
  abbrev w : KernelState
  w = state_after b p.noted.entries

  abbrev words : ℕ → List ℕ
  words = words_on (disks.reading p.store.disk)

  abbrev kept : ℕ → Bool
  kept = kept_names (books p.store)

  -- so many are free at least
  low : (books p.store).count ≤ pool_at + free_in (books p.store) + 5 * all_pages w + 32 * all_born w
  low =
      let k = view_of disks.reading b p.cells p.store p.noted.entries p.noted.marks None in
      let h = st.runs.stored told refl in
      let tabled = subst (λ (v : KernelState). AreTablesWithin v (tables_in p.cells)) st.runs.follows.state (tables_within (books p.store).held p.cells st.orderly b.supply words) in
      let four : (x : ℕ) → commits_above (completed b p.noted.entries) (run_of b p.noted.entries).cut x ≤ 4 =
      λ x. (let above = each_kept b disks k p.store.disk st.runs.begins st.runs.legal h x in let most = few x in omega (arith, above, most)) in
      let room = room_bound b disks k p.store.disk st.runs.begins st.runs.legal h tabled 4 four in
      omega (arith, room)

  within_by : (need : ℕ) → n ≡ record { need = need; free = free_in (books p.store) } → need ≤ all_pages w + 8 * all_born w → AreWithin w (books p.store).count n
  within_by need numbers most =
      let same_need : n.need ≡ need = ap (λ (q : NoBlocks). q.need) numbers in
      let same_free : n.free ≡ free_in (books p.store) = ap (λ (q : NoBlocks). q.free) numbers in
      let pool = free_few (books p.store) in
      let left = low in
      record { need = omega (arith, same_need, most); free = omega (arith, same_free, pool); low = omega (arith, same_free, left) }

  needs_few : needs_in kept p.cells ≤ all_pages w + 8 * all_born w
  needs_few =
      subst (λ (v : KernelState). needs_in kept p.cells ≤ all_pages v + 8 * all_born v) st.runs.follows.state
      (needs_room (books p.store).held p.cells st.orderly b.supply words kept)

  -- of all records of a Stable
  pub all_within : AreShort p n → AreWithin w (books p.store).count n
  all_within short = within_by (needs_in kept p.cells) short.numbers needs_few

  -- of one record
  pub record_within : (x : ℕ) → IsShort disks x p n → AreWithin w (books p.store).count n
  record_within x short =
      let one = one_within (need_in kept) p.cells x short.cell short.at in
      let all = needs_few in
      within_by (need_in kept short.cell) short.short.numbers (omega (arith, one, all))

  -- of a page
  pub page_within : free_in (books p.store) ≡ 0 → n ≡ record { need = 1; free = 0 } → AreWithin w (books p.store).count n
  page_within none numbers =
      let room : 8 ≤ all_pages w + 8 * all_born w =
      subst (λ (v : KernelState). 8 ≤ all_pages v + 8 * all_born v) st.runs.follows.state (atlas_room (books p.store).held p.cells st.orderly b.supply words) in
      within_by 1 (numbers ∙ ap (λ (f : ℕ). record { need = 1; free = f }) (sym none)) (omega (arith, room))
