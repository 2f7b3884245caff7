-- A record of one cell that failed stops a run.
use Rattle.std.proofs.Common.{◌≡◌, ℕ, ◌≤◌, List, [], ◌∷◌, ◌++◌, slice_get, Some, None, refl, sym, ap, subst, ◌∙◌}
use Rattle.edge_disk.specs.declared.disk.Disk.{Ghosts}
use Rattle.edge_disk.specs.Image.{Image}
use Rattle.base_types.specs.declared.histories.Entry.{Entry}
use Rattle.base_types.specs.declared.histories.Event.TheVariants.{Tried}
use Rattle.image_facts.specs.model_kernel.Histories.{MayCommit, mark}
use Rattle.table_steps.specs.cell_states.declared.cells.Cell.{Cell}
use Rattle.table_steps.specs.table_laws.Tables.{IsOrderly}
use Rattle.kernel_book_laws.specs.store_facts.State.{State, books}
use Rattle.table_steps.specs.cell_wish_laws.Founded.{IsFoundedCell}
use Rattle.kernel_book_laws.specs.kernel_invariant.Beginnings.{Beginning, run_of}
use Rattle.kernel_book_laws.specs.kernel_invariant.declared.stopping.Stopped.TheVariants.{WriteFault}
use Rattle.kernel_book_laws.proofs.kernel_laws_lemmas.Going.{tried_lives}
use Rattle.kernel_book_laws.specs.kernel_records.Committing.{CommitCounts, HasPages}
use Rattle.kernel_book_laws.specs.kernel_views.Snaps.{LeavesOne}
use Rattle.kernel_book_laws.specs.kernel_views.Views.{view_of}
use Rattle.kernel_book_laws.proofs.kernel_views_lemmas.Behind.{pages_order}
use Rattle.kernel_book_laws.proofs.kernel_views_lemmas.Leaving.{LeftCell}
use Rattle.kernel_book_laws.proofs.kernel_views_lemmas.Trying.{stopped}
use Rattle.kernel_commit_facts.specs.Parts.{LivesAs, Parts}
use Rattle.kernel_commit_facts.specs.Recording.{CanRecord, HasTried, MayRecord}
use Rattle.kernel_commit_facts.proofs.Committing.{spelt}
use Rattle.kernel_commit_facts.proofs.Running.{same_mark, small_cell}

module _ {D : Type 0} (disks : Ghosts D)
    (counts_later : (disk : D) (s t : ℕ) (c : Image) → disks.tells → s ≤ t → disks.left_since disk t c → disks.left_since disk s c)
    (only_now : (disk : D) (c : Image) → disks.tells → disks.left_since disk (disks.clock disk) c → disks.may_leave disk c)
    (b : Beginning) (x : ℕ) (old new : Parts D) (told : disks.tells) where
  abbrev Stood : Type 0
  Stood = MayRecord disks b x old

  module _ (m : Stood) (can : CanRecord disks x old.cells old.store) (r : HasTried disks x old new)
      (counts : CommitCounts disks old.store new.store) where
    abbrev c : Cell
    c = r.failed.before

    abbrev d : Cell
    d = r.failed.after

    abbrev Lives : List Entry → List ℕ → Type 0
    Lives es marks = Rattle.kernel_book_laws.specs.kernel_invariant.Live.IsLive b disks (view_of disks.reading b new.cells new.store es marks (Some WriteFault)) new.store.disk

    number : c.clock.entity ≡ x
    number = r.failed.commits.number

    at : slice_get old.cells x ≡ Some c
    at = ap (slice_get old.cells) (sym number) ∙ r.failed.commits.lends.stood.0

    may : MayCommit b.policy (run_of b old.noted.entries) c.clock.entity
    may = subst (MayCommit b.policy (run_of b old.noted.entries)) (sym number) m.may

    one : LeavesOne disks old.cells new.cells c d old.store new.store
    one = record {
      lends = r.failed.commits.lends;
      spellable = spelt disks x old.cells old.store can c at;
      moments = r.failed.commits.moments told (m.stands.runs.stored told refl).small (small_cell disks counts_later only_now b x old new told c at m);
      counts = counts;
    }

    left : LeftCell disks b old.cells new.cells c d old.store new.store old.noted.entries old.noted.marks
    left = record { told = told; stands = m.stands; lends = one.lends; spellable = one.spellable; leaves = r.failed.failed.leaves }

    founded : IsFoundedCell d
    founded = subst IsFoundedCell (sym r.failed.failed.only_part) (m.stands.orderly.founded c.clock.entity c one.lends.stood.0)

    ord : (fl : State D) → HasPages disks c.part d.part old.store fl → IsOrderly (books fl).held new.cells
    ord fl pages = pages_order disks old.cells new.cells c d old.store fl r.failed.failed.leaves.same_clock one.lends founded pages m.stands.orderly

    lives : Lives (old.noted.entries ++ mark Tried c.clock.entity c.clock.version ∷ []) old.noted.marks
    lives = tried_lives b disks counts_later only_now (view_of disks.reading b old.cells old.store old.noted.entries old.noted.marks None) _ old.store.disk new.store.disk m.stands.runs (mark Tried c.clock.entity c.clock.version)
        (stopped left m.untried may one r.failed.failed ord)

    pub tried_stops : LivesAs disks b new (Some WriteFault)
    tried_stops =
        subst (λ es. Lives es new.noted.marks) (sym (r.entries ∙ ap (λ e. old.noted.entries ++ e ∷ []) (same_mark disks counts_later only_now b x old new told Tried c number at)))
        (subst (λ marks. Lives (old.noted.entries ++ mark Tried c.clock.entity c.clock.version ∷ []) marks) (sym r.marks) lives)
