-- A record of one cell leaves what every entity is.
use Rattle.std.proofs.Common.{◌≡◌, ◌≢◌, inl, inr, ℕ, List, [], ◌∷◌, slice_get, Option, Some, None, Ok, Err, refl, sym, ap, subst, ◌∙◌}
use Rattle.std.specs.Prelude.{OnOk, Result, ⊤}
use Rattle.edge_disk.specs.declared.disk.Disk.{Ghosts}
use Rattle.thread_commits.specs.kernel_commit_facts.cell_states.declared.cells.Cell.{Cell}
use Rattle.thread_commits.specs.kernel_commit_facts.cell_states.Cells.{part_of}
use Rattle.thread_commits.specs.kernel_commit_facts.kernel_invariant.declared.stopping.Stopped.{Stopped}
use Rattle.thread_commits.specs.kernel_commit_facts.kernel_invariant.declared.stopping.Stopped.TheVariants as reason
use Rattle.thread_commits.specs.kernel_commit_facts.kernel_record_facts.Cells.{words_on}
use Rattle.thread_commits.specs.kernel_commit_facts.kernel_records.Committing.{LeavesCell}
use Rattle.thread_commits.specs.kernel_commit_facts.kernel_records.cell_clocks.declared.Clock.{Clock}
use Rattle.thread_commits.specs.kernel_commit_facts.model_kernel.State.{Supply}
use Rattle.thread_commits.specs.kernel_commit_facts.store_facts.State.{State, books}
use Rattle.thread_commits.specs.kernel_commit_facts.table_laws.Lending.{Lends}
use Rattle.thread_commits.specs.kernel_commit_facts.table_laws.Tables.{AreClean, IsOrderly, entity_by, entity_in, state_in}
use Rattle.thread_commits.specs.kernel_commit_facts.Parts.{Parts}
use Rattle.thread_commits.specs.kernel_commit_facts.Recording.{HasRecorded}
use Rattle.thread_commits.proofs.kernel_commit_facts_lemmas.kernel_views_lemmas.Behind.{order, recorded_founded}
use Rattle.thread_commits.proofs.kernel_commit_facts_lemmas.kernel_views_lemmas.Flushing.{spot}
use Rattle.thread_commits.proofs.kernel_commit_facts_lemmas.kernel_views_lemmas.Leaving.{clean_cell, stay_clean}
use Rattle.thread_commits.proofs.kernel_commit_facts_lemmas.kernel_views_lemmas.Others.{other_part}
use Rattle.thread_commits.specs.kernel_commits.Recording.{Fails}
use Rattle.thread_commits.proofs.kernel_commits_lemmas.Stops.{tried_orderly}

-- THE SAME KERNEL STATE with each supplier for which the pages were clean, and they are clean again; the cells are in order still
pub record KeepsState {D : Type 0} (disks : Ghosts D) (old new : Parts D) : Type 0 where
  pub orderly : IsOrderly (books new.store).held new.cells
  pub state : disks.tells → (s : Supply) → AreClean s (words_on (disks.reading old.store.disk)) old.cells
      → (y : ℕ) → state_in s (words_on (disks.reading new.store.disk)) new.cells y ≡ state_in s (words_on (disks.reading old.store.disk)) old.cells y
  pub clean : disks.tells → (s : Supply) → AreClean s (words_on (disks.reading old.store.disk)) old.cells → AreClean s (words_on (disks.reading new.store.disk)) new.cells

-- the same clock, and a part that means the same
entity_same : (s : Supply) (words words' : ℕ → List ℕ) (c d : Cell) → d.clock ≡ c.clock → part_of s words' d.part ≡ part_of s words c.part → entity_by s words' d ≡ entity_by s words c
entity_same s words words' c d clock part =
    ap (λ (k : Clock). entity_by s words' (record d { clock = k })) clock ∙ ap (λ q. record (entity_by s words c) { cell = q }) part

-- a commit of one cell, whether it was made or not
module _ {D : Type 0} (disks : Ghosts D) (told : disks.tells) (s : Supply) (cs cs' : List Cell) (c d : Cell) (old new : State D) (ord : IsOrderly (books old).held cs)
    (lends : Lends cs cs' (c ∷ []) (d ∷ [])) (l : LeavesCell disks c d old new) (clean : AreClean s (words_on (disks.reading old.disk)) cs) where
  entity_left : entity_by s (words_on (disks.reading new.disk)) d ≡ entity_by s (words_on (disks.reading old.disk)) c
  entity_left = entity_same s (words_on (disks.reading old.disk)) (words_on (disks.reading new.disk)) c d l.same_clock
      (l.means told s (clean_cell disks told s cs cs' c d old new ord lends l clean)).0

  other_entity : (y : ℕ) → y ≢ c.clock.entity → (o : Option Cell) → slice_get cs y ≡ o
      → entity_in s (words_on (disks.reading new.disk)) y o ≡ entity_in s (words_on (disks.reading old.disk)) y o
  other_entity y differs None is = refl
  other_entity y differs (Some a) is =
      entity_same s (words_on (disks.reading old.disk)) (words_on (disks.reading new.disk)) a a refl
      (other_part disks told s cs c.clock.entity c d old new ord lends.stood.0 l y a differs is)

  pub state_left : (y : ℕ) → state_in s (words_on (disks.reading new.disk)) cs' y ≡ state_in s (words_on (disks.reading old.disk)) cs y
  state_left y = elim (spot cs cs' c d (ap (λ (k : Clock). k.entity) l.same_clock) lends y) as (λ _. state_in s (words_on (disks.reading new.disk)) cs' y ≡ state_in s (words_on (disks.reading old.disk)) cs y) [
    | inl p ↦ ap (entity_in s (words_on (disks.reading new.disk)) y) p.1 ∙ (entity_left ∙ sym (ap (entity_in s (words_on (disks.reading old.disk)) y) (ap (slice_get cs) p.0 ∙ lends.stood.0)))
    | inr p ↦ ap (entity_in s (words_on (disks.reading new.disk)) y) p.1 ∙ other_entity y p.0 (slice_get cs y) refl
  ]

module _ {D : Type 0} (disks : Ghosts D) (x : ℕ) (old new : Parts D) (ord : IsOrderly (books old.store).held old.cells) where
  keeps_by : (c d : Cell) → Lends old.cells new.cells (c ∷ []) (d ∷ []) → LeavesCell disks c d old.store new.store → IsOrderly (books new.store).held new.cells → KeepsState disks old new
  keeps_by c d lends l again = record {
    orderly = again;
    state = λ told s clean. state_left disks told s old.cells new.cells c d old.store new.store ord lends l clean;
    clean = λ told s clean. stay_clean disks told s old.cells new.cells c d old.store new.store ord lends l clean;
  }

  keeps_still : new ≡ old → KeepsState disks old new
  keeps_still same = subst (KeepsState disks old) (sym same) (record { orderly = ord; state = λ told s clean y. refl; clean = λ told s clean. clean })

  -- WHATEVER COMES OF A RECORD
  pub record_keeps : (r : Result ⊤ Stopped) → OnOk r (HasRecorded disks x old new) → Fails disks x r old new → KeepsState disks old new
  record_keeps (Ok y) h fails =
      let m = h.made in
      keeps_by m.before m.after m.commits.lends m.committed.leaves
      (order disks old.cells new.cells m.before m.after old.store new.store ord m.commits.lends (recorded_founded m.before m.after m.committed.recorded) m.committed.leaves)
  record_keeps (Err (reason.NoBlocks n)) h fails = keeps_still (fails.untouched n refl)
  record_keeps (Err reason.ReadFault) h fails = absurd (fails.no_read refl)
  record_keeps (Err reason.WriteFault) h fails =
      let t = fails.tried refl in
      keeps_by t.failed.before t.failed.after t.failed.commits.lends t.failed.failed.leaves (tried_orderly disks x old new ord t)
