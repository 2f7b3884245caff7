-- A record of one cell takes a run on, or stops it.
use Rattle.std.proofs.Common.{◌≡◌, ℕ, ◌≤◌, true, List, [], ◌∷◌, ◌++◌, slice_get, Some, None, refl, sym, ap, subst, ◌∙◌}
use Rattle.edge_disk.specs.declared.disk.Disk.{Ghosts}
use Rattle.edge_disk.specs.Image.{Image}
use Rattle.base_types.specs.declared.histories.Entry.{Entry}
use Rattle.base_types.specs.declared.histories.Event.{Event}
use Rattle.base_types.specs.declared.histories.Event.TheVariants.{Snap}
use Rattle.image_facts.specs.model_kernel.Histories.{MayCommit, mark}
use Rattle.table_steps.specs.cell_states.declared.cells.Cell.{Cell}
use Rattle.table_steps.specs.table_laws.Tables.{AreClean, IsOrderly, state_in}
use Rattle.kernel_book_laws.specs.kernel_record_facts.Cells.{words_on}
use Rattle.kernel_book_laws.specs.store_facts.Putting.{are_small}
use Rattle.kernel_book_laws.specs.store_facts.State.{State, books}
use Rattle.kernel_book_laws.specs.store_books.Between.{Between-stay}
use Rattle.kernel_book_laws.specs.kernel_invariant.Beginnings.{Beginning, run_of, state_after}
use Rattle.kernel_book_laws.specs.kernel_invariant.Live.{IsRunning}
use Rattle.kernel_book_laws.specs.kernel_invariant.declared.stopping.Stopped.{Stopped}
use Rattle.kernel_book_laws.proofs.kernel_laws_lemmas.Going.{snap_runs, stop_lives}
use Rattle.kernel_book_laws.proofs.kernel_laws_lemmas.Numbers.{stamp_small, version_small}
use Rattle.kernel_book_laws.specs.kernel_records.Committing.{CommitCounts, HasPages}
use Rattle.kernel_book_laws.specs.kernel_views.Snaps.{CommitsOne, Stands}
use Rattle.kernel_book_laws.specs.kernel_views.Views.{view_of}
use Rattle.kernel_book_laws.proofs.kernel_views_lemmas.Behind.{order, pages_order, recorded_founded}
use Rattle.kernel_book_laws.proofs.kernel_views_lemmas.Leaving.{LeftCell, small_both}
use Rattle.kernel_book_laws.proofs.kernel_views_lemmas.Snapping.{clean_on, made_snap}
use Rattle.kernel_book_laws.proofs.kernel_views_lemmas.Stopping.{stops}
use Rattle.kernel_book_laws.specs.Matching.{version_at, version_of}
use Rattle.kernel_commit_facts.specs.Parts.{LivesAs, Parts, StandsAs}
use Rattle.kernel_commit_facts.specs.Recording.{CanRecord, HasRecorded, MayRecord}
use Rattle.kernel_commit_facts.proofs.Committing.{spelt}

module _ {D : Type 0} (disks : Ghosts D)
    (counts_later : (disk : D) (s t : ℕ) (c : Image) → disks.tells → s ≤ t → disks.left_since disk t c → disks.left_since disk s c)
    (only_now : (disk : D) (c : Image) → disks.tells → disks.left_since disk (disks.clock disk) c → disks.may_leave disk c)
    (b : Beginning) (x : ℕ) (old new : Parts D) (told : disks.tells) where
  abbrev Stood : Type 0
  Stood = MayRecord disks b x old

  -- no number of a cell is too large
  pub small_cell : (c : Cell) → slice_get old.cells x ≡ Some c → Stood → are_small c.clock.version c.clock.stamp.0 ≡ true
  small_cell c at m =
      let runs = m.stands.runs in
      let is : state_in b.supply (words_on (disks.reading old.store.disk)) old.cells ≡ state_after b old.noted.entries = runs.follows.state in
      let here = ap (Rattle.table_steps.specs.table_laws.Tables.entity_in b.supply (words_on (disks.reading old.store.disk)) x) at in
      small_both c.clock.version c.clock.stamp.0
      (subst (λ n. n ≤ Rattle.image_facts.specs.Layout.last_number) (sym (ap (λ w. (w x).version) is) ∙ ap (λ e. e.version) here) (version_small b old.noted.entries runs.begins runs.legal x))
      (λ y. subst (λ n. n ≤ Rattle.image_facts.specs.Layout.last_number) (sym (ap (λ w. (w x).stamp y) is) ∙ ap (λ e. e.stamp y) here) (stamp_small b old.noted.entries runs.begins runs.legal x y))

  pub same_mark : (k : Event) (c : Cell) → c.clock.entity ≡ x → slice_get old.cells x ≡ Some c → mark k x (version_of old.cells x) ≡ mark k c.clock.entity c.clock.version
  same_mark k c number at = ap (λ y. mark k y (version_of old.cells x)) (sym number) ∙ ap (λ o. mark k c.clock.entity (version_at o)) at

  module _ (m : Stood) (can : CanRecord disks x old.cells old.store) (r : HasRecorded disks x old new)
      (counts : CommitCounts disks old.store new.store) where
    abbrev c : Cell
    c = r.made.before

    abbrev d : Cell
    d = r.made.after

    number : c.clock.entity ≡ x
    number = r.made.commits.number

    at : slice_get old.cells x ≡ Some c
    at = ap (slice_get old.cells) (sym number) ∙ r.made.commits.lends.stood.0

    may : MayCommit b.policy (run_of b old.noted.entries) c.clock.entity
    may = subst (MayCommit b.policy (run_of b old.noted.entries)) (sym number) m.may

    one : CommitsOne disks old.cells new.cells c d old.store new.store
    one = record {
      left = record {
        lends = r.made.commits.lends;
        spellable = spelt disks x old.cells old.store can c at;
        moments = r.made.commits.moments told (m.stands.runs.stored told refl).small (small_cell c at m);
        counts = counts;
      };
      committed = r.made.committed;
      true_books = r.made.true_books told;
    }

    left : LeftCell disks b old.cells new.cells c d old.store new.store old.noted.entries old.noted.marks
    left = record { told = told; stands = m.stands; lends = one.left.lends; spellable = one.left.spellable; leaves = r.made.committed.leaves }

    ord : (fl : State D) → HasPages disks c.part d.part old.store fl → IsOrderly (books fl).held new.cells
    ord fl pages = pages_order disks old.cells new.cells c d old.store fl r.made.committed.leaves.same_clock one.left.lends (recorded_founded c d r.made.committed.recorded) pages m.stands.orderly

    orderly : IsOrderly (books new.store).held new.cells
    orderly = order disks old.cells new.cells c d old.store new.store m.stands.orderly one.left.lends (recorded_founded c d r.made.committed.recorded) r.made.committed.leaves

    runs : IsRunning b disks (view_of disks.reading b new.cells new.store (old.noted.entries ++ mark Snap c.clock.entity c.clock.version ∷ []) (old.noted.marks ++ (books new.store).begun ∷ []) None) new.store.disk
    runs = snap_runs b disks counts_later only_now (view_of disks.reading b old.cells old.store old.noted.entries old.noted.marks None) _ old.store.disk new.store.disk m.stands.runs (mark Snap c.clock.entity c.clock.version)
        (made_snap left m.untried may one ord)

    clean : AreClean b.supply (words_on (disks.reading new.store.disk)) new.cells
    clean = clean_on left m.untried may one ord

    by_notes : (es : List Entry) → es ≡ new.noted.entries → (marks : List ℕ) → marks ≡ new.noted.marks → Stands disks b new.cells new.store es marks
        → StandsAs disks b new
    by_notes es same marks same_marks st =
        subst (λ es. Stands disks b new.cells new.store es new.noted.marks) same
        (subst (λ marks. Stands disks b new.cells new.store es marks) same_marks st)

    pub snap_stands : StandsAs disks b new
    snap_stands = by_notes (old.noted.entries ++ mark Snap c.clock.entity c.clock.version ∷ []) (sym (r.entries ∙ ap (λ e. old.noted.entries ++ e ∷ []) (same_mark Snap c number at)))
        (old.noted.marks ++ (books new.store).begun ∷ []) (sym r.marks) (record { runs = runs; orderly = orderly; clean = clean })

-- where nothing was done
module _ {D : Type 0} (disks : Ghosts D)
    (counts_later : (disk : D) (s t : ℕ) (c : Image) → disks.tells → s ≤ t → disks.left_since disk t c → disks.left_since disk s c)
    (only_now : (disk : D) (c : Image) → disks.tells → disks.left_since disk (disks.clock disk) c → disks.may_leave disk c) where
  pub still_lives : (b : Beginning) (p : Parts D) (why : Stopped) → StandsAs disks b p → LivesAs disks b p (Some why)
  still_lives b p why st =
      stop_lives b disks counts_later only_now (view_of disks.reading b p.cells p.store p.noted.entries p.noted.marks None) _ p.store.disk p.store.disk st.runs
      (stops disks b p.cells p.cells p.store p.store p.noted.entries p.noted.marks why st (record {
        numbers = st.orderly.numbers;
        state = refl;
        wishes = λ steps r has. has;
        before = 0;
        after = 0;
        pages = Between-stay disks p.store.disk (books p.store) 0 (λ c told left. only_now p.store.disk c told left);
      }))
