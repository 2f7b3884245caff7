-- A kernel may begin with the cells and the store of an image that was opened, and is live where they stand at the start.
use Rattle.std.proofs.Common.{◌≡◌, inl, inr, ℕ, ◌≤◌, ◌^◌, List, [], Option, Some, None, refl, sym, ap, subst, ◌∙◌, arith}
use Rattle.std.specs.Prelude.{All, slice_get}
use Rattle.edge_disk.specs.declared.disk.Disk.{Ghosts}
use Rattle.base_types.specs.declared.records.Rec.{Rec}
use Rattle.kernel_core.specs.model_kernel.Histories.{start_run}
use Rattle.kernel_core.specs.model_kernel.State.{KernelState}
use Rattle.kernel_core.specs.cell_states.declared.cells.Cell.{Cell}
use Rattle.kernel_core.specs.cell_states.Wishes.{HasWish}
use Rattle.kernel_core.specs.kernel_book_laws.Matching.{newest_of, version_of}
use Rattle.open_image.specs.table_laws.Tables.{entity_in, state_in}
use Rattle.open_image.specs.open_facts.Images.{IsOpened, IsOpenedTable}
use Rattle.open_image.proofs.open_facts_lemmas.Stored.{low_any, low_row}
use Rattle.kernel_core.specs.kernel_core_facts.Kernels.{MayBegin}
use Rattle.open_image.specs.store_facts.State.{State, books}
use Rattle.open_image.specs.store_books.Books.{AreTrue, recs_in}

module _ {D : Type 0} (disks : Ghosts D) (frames steps : ℕ) (st : State D) (cs : List Cell) (t : IsOpenedTable frames steps st cs) where
  abbrev at_start : KernelState
  at_start = state_in (λ t p a. 0) (λ n. []) cs

  wish : (x : ℕ) (c : Cell) → slice_get cs x ≡ Some c → HasWish steps (start_run at_start) c
  wish x c at = t.wishes (λ t p a. 0) (λ n. []) x c at

  -- each newest record is of its entity's version
  same_version : (x : ℕ) → newest_of cs x ≡ version_of cs x
  same_version x = by_cell (slice_get cs x) refl
    where
      by_cell : (o : Option Cell) → slice_get cs x ≡ o → Rattle.open_image.specs.kernel_views.Views.newest_at o ≡ Rattle.kernel_core.specs.kernel_book_laws.Matching.version_at o
      by_cell None is = refl
      by_cell (Some c) is = sym (wish x c is).newest ∙ (ap (λ y. (at_start y).version) (t.orderly.numbers.each x c is) ∙ ap (λ o. (entity_in (λ t p a. 0) (λ n. []) x o).version) is)

  low_versions : (x : ℕ) → version_of cs x ≤ 2 ^ 62
  low_versions x =
      let o : IsOpened st t.parts = t.opened in
      let low = subst (All (λ (r : Rec). r.version ≤ 2 ^ 62)) (sym o.recs) (low_row o.log.blocks o.log.recs.items o.known.in_range) in
      let same = same_version x in
      elim (t.newest.newest.newest x) as (λ _. version_of cs x ≤ 2 ^ 62) [
        | inl none ↦ (let e = none in omega (arith, e, same))
        | inr some ↦ (let le = low_any (recs_in (books st)) (newest_of cs x) x (t.newest.stamps x) low some in omega (arith, le, same))
      ]

  pub may_begin : (disks.tells → AreTrue disks (books st) st.disk) → steps ≤ 40000 → MayBegin disks steps st cs
  may_begin right few = record {
    sound = record {
      matches = record {
        orderly = t.orderly;
        read = t.opened.read;
        stamps = t.newest.stamps;
        newest = t.newest.newest;
        below = λ x y some. (let le = t.newest.below x y some in let same = same_version y in omega (arith, le, same));
        few = λ y. (let le = t.newest.few y in omega (arith, le));
      };
      working = t.opened.working;
      true_books = right;
    };
    fresh = λ x c at. (let w = wish x c at in ((let e = w.left in omega (arith, e)), sym w.by_step, sym w.asked));
    steps_few = few;
    versions = low_versions;
    epoch = (let is = t.opened.epoch in let le = t.opened.known.epoch in omega (arith, is, le));
  }
