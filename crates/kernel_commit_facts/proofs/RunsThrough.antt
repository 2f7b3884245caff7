-- The records of an owed Stable in a run, one after another.
use Rattle.std.proofs.Common.{◌≡◌, ℕ, suc, ◌<◌, true, false, nat_lt, List, [], ◌∷◌, ◌++◌, slice_get, Option, Some, None, refl, sym, ap, subst, ◌∙◌, arith}
use Rattle.std.proofs.lemmas.Bool.Decides.{nat_tests}
use Rattle.edge_disk.specs.declared.disk.Disk.{Ghosts}
use Rattle.base_types.specs.declared.histories.Event.TheVariants.{Snap}
use Rattle.image_facts.specs.model_kernel.Histories.{has_changed, mark, next_changed, version_of as run_version}
use Rattle.image_facts.specs.model_kernel.State.{KernelState, Supply}
use Rattle.table_steps.specs.cell_states.declared.cells.Cell.{Cell}
use Rattle.table_steps.specs.table_laws.Tables.{entity_in}
use Rattle.kernel_book_laws.specs.kernel_record_facts.Cells.{words_on}
use Rattle.kernel_book_laws.specs.store_facts.State.{books}
use Rattle.kernel_book_laws.specs.kernel_invariant.Beginnings.{Beginning, run_of}
use Rattle.kernel_book_laws.specs.kernel_views.Views.{FollowsRun}
use Rattle.kernel_book_laws.proofs.kernel_views_lemmas.Following.{cells_follow}
use Rattle.kernel_book_laws.specs.Matching.{newest_of, version_at, version_of}
use Rattle.kernel_commit_facts.specs.Parts.{Parts, StandsAs}
use Rattle.kernel_commit_facts.specs.Recording.{HasRecorded, MayRecord}
use Rattle.kernel_commit_facts.specs.Stabilising.{OwesStable}
use Rattle.kernel_commit_facts.proofs.Stabling.{begins, may_next, next_one, skips, snaps_one}
use Rattle.kernel_commit_facts.specs.Through.{GoesThrough, IsUnderway, RunsThrough}

module _ {D : Type 0} (disks : Ghosts D) (b : Beginning) where
  module _ (p : Parts D) (st : StandsAs disks b p) where
    follow : FollowsRun b (words_on (disks.reading p.store.disk)) p.cells p.noted.entries
    follow = cells_follow b p.noted.entries (disks.reading p.store.disk) p.cells st.orderly.numbers (books p.store) p.noted.marks None st.runs.follows

    version_by : (s : Supply) (words : ℕ → List ℕ) (y : ℕ) (o : Option Cell) → (entity_in s words y o).version ≡ version_at o
    version_by s words y (Some c) = refl
    version_by s words y None = refl

    pub version_in_run : (y : ℕ) → run_version (run_of b p.noted.entries) y ≡ version_of p.cells y
    version_in_run y = ap (λ (w : KernelState). (w y).version) (sym follow.state) ∙ version_by b.supply (words_on (disks.reading p.store.disk)) y (slice_get p.cells y)

    newest_in_run : (y : ℕ) → (run_of b p.noted.entries).newest y ≡ newest_of p.cells y
    newest_in_run y = ap (λ (n : ℕ → ℕ). n y) (sym st.runs.follows.newest)

    pub changed_is : (y : ℕ) → has_changed (run_of b p.noted.entries) y ≡ nat_lt (newest_of p.cells y) (version_of p.cells y)
    changed_is y = ap (λ n. nat_lt n (run_version (run_of b p.noted.entries) y)) (newest_in_run y) ∙ ap (λ v. nat_lt (newest_of p.cells y) v) (version_in_run y)

  not_less : (n v : ℕ) → n ≡ v → nat_lt n v ≡ false
  not_less n v is = grind (arith, nat_tests)

  less : (n v : ℕ) → n < v → nat_lt n v ≡ true
  less n v lt = grind (arith, nat_tests)

  abbrev Runs : ℕ → ℕ → Parts D → Parts D → Type 0
  Runs actor i old now = RunsThrough disks b actor i old now

  pub runs_begin : (actor : ℕ) (old : Parts D) → OwesStable disks b actor old → Runs actor 0 old old
  runs_begin actor old o = record { stands = o.stands; under = begins b actor old.noted.entries o.owed o.untried }

  module _ (actor i : ℕ) (old now : Parts D) (st : StandsAs disks b old) (g : GoesThrough disks i old now) (u : Runs actor i old now) where
    same_change : has_changed (run_of b old.noted.entries) i ≡ nat_lt (newest_of now.cells i) (version_of now.cells i)
    same_change = changed_is old st i ∙ (ap (λ n. nat_lt n (version_of old.cells i)) (sym (g.after i (omega arith))) ∙ ap (λ v. nat_lt (newest_of now.cells i) v) (sym (g.versions i)))

    pub runs_pass : newest_of now.cells i ≡ version_of now.cells i → Runs actor (suc i) old now
    runs_pass is = record { stands = u.stands; under = skips b actor old.noted.entries i now.noted.entries u.under (same_change ∙ not_less (newest_of now.cells i) (version_of now.cells i) is) }

    pub next_is : i < 64 → newest_of now.cells i < version_of now.cells i → next_changed (run_of b now.noted.entries) ≡ Some i
    next_is low lt =
        next_one b actor old.noted.entries i now.noted.entries u.under low
        (λ y below. changed_is now u.stands y ∙ not_less (newest_of now.cells y) (version_of now.cells y) (g.before y below))
        (changed_is now u.stands i ∙ less (newest_of now.cells i) (version_of now.cells i) lt)

    pub runs_may : i < 64 → newest_of now.cells i < version_of now.cells i → MayRecord disks b i now
    runs_may low lt = record {
      stands = u.stands;
      untried = u.under.untried;
      may = may_next b actor old.noted.entries i now.noted.entries u.under (next_is low lt);
    }

    pub runs_next : (next : Parts D) → i < 64 → newest_of now.cells i < version_of now.cells i → HasRecorded disks i now next
        → StandsAs disks b next → Runs actor (suc i) old next
    runs_next next low lt r stands = record {
      stands = stands;
      under = subst (IsUnderway b actor (suc i) old.noted.entries)
          (ap (λ v. now.noted.entries ++ mark Snap i v ∷ []) (version_in_run now u.stands i) ∙ sym r.entries)
          (snaps_one b actor old.noted.entries i now.noted.entries u.under (same_change ∙ less (newest_of now.cells i) (version_of now.cells i) lt) (next_is low lt));
    }
