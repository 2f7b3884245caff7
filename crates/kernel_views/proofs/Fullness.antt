-- An entity is full exactly where the store keeps four records of it.
use Rattle.std.proofs.Common.{◌≡◌, ℕ, Bool, true, false, not, nat_lt, nat_le, List, None, refl, ap, ◌∙◌, arith}
use Rattle.std.proofs.lemmas.Bool.Decides.{nat_tests}
use Rattle.edge_disk.specs.declared.disk.Disk.{Ghosts}
use Rattle.base_types.specs.declared.histories.Entry.{Entry}
use Rattle.kernel_records.specs.model_kernel.Histories.{is_full}
use Rattle.kernel_records.specs.store_facts.Shelves.{records_of}
use Rattle.kernel_records.specs.store_facts.State.{State, books}
use Rattle.kernel_laws.specs.store_books.Books.{kept_in}
use Rattle.kernel_records.specs.cell_states.declared.cells.Cell.{Cell}
use Rattle.kernel_records.specs.Snapping.{has_room}
use Rattle.kernel_laws.specs.kernel_invariant.Beginnings.{Beginning, run_of}
use Rattle.kernel_records.proofs.kernel_block_laws_lemmas.Enough.{each_kept}
use Rattle.kernel_views.specs.Snaps.{Stands}
use Rattle.kernel_views.specs.Views.{view_of}

below_four : (n : ℕ) → nat_lt n 4 ≡ not (nat_le 4 n)
below_four n = by_test (nat_le 4 n) refl
  where
    by_test : (t : Bool) → nat_le 4 n ≡ t → nat_lt n 4 ≡ not t
    by_test true is = grind (arith, nat_tests)
    by_test false is = grind (arith, nat_tests)

pub full_same : {D : Type 0} (disks : Ghosts D)
    (b : Beginning) (cs : List Cell) (st : State D) (es : List Entry) (marks : List ℕ) (x : ℕ) → disks.tells → Stands disks b cs st es marks
    → has_room (books st) x ≡ not (is_full (run_of b es) x)
full_same disks b cs st es marks x told k =
    below_four (records_of x (kept_in (books st)))
    ∙ ap (λ (n : ℕ). not (nat_le 4 n)) (each_kept b disks (view_of disks.reading b cs st es marks None) st.disk k.runs.begins k.runs.legal (k.runs.stored told refl) x)
