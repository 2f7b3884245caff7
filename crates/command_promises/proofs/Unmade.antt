-- Why an image was not opened for a script.
use Rattle.std.proofs.Common.{◌≡◌, ◌⊎◌, inl, inr, ℕ, ◌≤◌, List, refl, sym, ap, subst, ◌∙◌}
use Rattle.edge_disk.specs.declared.disk.Disk.{Ghosts}
use Rattle.edge_disk.specs.Counts.{Rose}
use Rattle.edge_disk.specs.Image.{Image}
use Rattle.edge_disk.specs.Moments.{LeavesOnly}
use Rattle.model_serial.specs.model_births.Fitting.{Fits}
use Rattle.image_facts.specs.model_kernel.Scripts.{Script as Tables}
use Rattle.image_facts.specs.model_kernel.State.{AtlasState, KernelState, Supply}
use Rattle.image_facts.specs.model_kernel.Steps.{atlas_in}
use Rattle.image_format.specs.image_blocks.Checks.{Bad as BadPlace}
use Rattle.image_format.specs.image_meaning.Meaning.{Accepted, Means}
use Rattle.image_format.proofs.image_meaning_lemmas.Ones.{one_meaning}
use Rattle.open_kernel.specs.open_facts.Images.{HasImageCause, HasTurnLeft, MeansSame, MeansSince, StopsShort, WasRefused}
use Rattle.kernel_runs.specs.cell_states.declared.cells.Cell.{Cell}
use Rattle.open_kernel.specs.table_laws.Tables.{state_in}
use Rattle.open_kernel.specs.kernel_record_facts.Cells.{words_on}
use Rattle.kernel_runs.specs.table_births.Births.{atlas_state_in}
use Rattle.kernel_runs.proofs.table_births_lemmas.AtlasStates.{same_atlas}
use Rattle.open_kernel.specs.store_snapshots.declared.opening.OpenWhy.{OpenWhy}
use Rattle.open_kernel.specs.store_snapshots.declared.opening.OpenWhy.TheVariants as why
use Rattle.command_source.specs.command_outcomes.Seen.{SeenDisk, seen_disk}
use Rattle.command_source.specs.command_outcomes.declared.faults.Fault.{Fault}
use Rattle.command_source.specs.command_outcomes.declared.faults.Fault.TheVariants as fault
use Rattle.command_promises.specs.Openings.{HasFailedSync, IsKeptImage, KeepsMeaning}
use Rattle.command_promises.specs.Ready.{IsFitFault, IsUnopened, RefusesFor, StopsOpening, fault_of_opening}
use Rattle.command_promises.proofs.Kept.{keeps_meaning, stays_as_read}

module _ {D : Type 0} (disks : Ghosts D)
    (counts_now : (disk : D) (t : ℕ) (c : Image) → disks.tells → t ≤ disks.clock disk → disks.may_leave disk c → disks.left_since disk t c) (script : Tables) (old new : D) where
  abbrev saw : SeenDisk
  saw = seen_disk disks old new

  abbrev KeepsMoments : Type 0
  KeepsMoments = disks.tells → HasTurnLeft (disks.reading old) → LeavesOnly disks old new (λ c. disks.may_leave old c ⊎ MeansSame (disks.reading old) c)

  -- THE IMAGE was not opened
  module _ (only_now : (disk : D) (c : Image) → disks.tells → disks.left_since disk (disks.clock disk) c → disks.may_leave disk c) (counts_later : (disk : D) (s t : ℕ) (c : Image) → disks.tells → s ≤ t → disks.left_since disk t c → disks.left_since disk s c)
      (moments : KeepsMoments) where
    fails : (w : OpenWhy) → (disks.tells → HasTurnLeft (disks.reading old) → StopsShort disks w old new ⊎ MeansSince disks old new) → IsUnopened saw
    fails w since = λ told room. by told room (since told room)
      where
        by : disks.tells → HasTurnLeft (disks.reading old) → StopsShort disks w old new ⊎ MeansSince disks old new → HasFailedSync saw ⊎ KeepsMeaning saw
        by told room (inl short) = inl (record { one = short.one; may = short.no_more })
        by told room (inr means) = inr (keeps_meaning disks counts_now told old new means (moments told room))

    lacks : (w : OpenWhy) → w ≡ why.Memory → (disks.tells → HasTurnLeft (disks.reading old) → StopsShort disks w old new ⊎ MeansSince disks old new) → IsKeptImage saw
    lacks w is since = λ told room. by told room (since told room)
      where
        by : disks.tells → HasTurnLeft (disks.reading old) → StopsShort disks w old new ⊎ MeansSince disks old new → KeepsMeaning saw
        by told room (inl short) = (let e : why.Memory ≡ why.WriteFault = sym is ∙ short.fault in absurd (cc e))
        by told room (inr means) = keeps_meaning disks counts_now told old new means (moments told room)

    pub unopened : (w : OpenWhy) → HasImageCause disks.tells (disks.reading old) (disks.faults old) (disks.faults new) w
        → ((bad : BadPlace) → w ≡ why.Foreign bad → WasRefused disks old new)
        → (disks.tells → HasTurnLeft (disks.reading old) → StopsShort disks w old new ⊎ MeansSince disks old new) → StopsOpening script saw (fault_of_opening w)
    unopened (why.Foreign bad) cause refused since = λ told. (cause told, stays_as_read disks counts_now told old new only_now counts_later (refused bad refl))
    unopened why.ReadFault cause refused since = (cause, fails why.ReadFault since)
    unopened why.WriteFault cause refused since = (cause, fails why.WriteFault since)
    unopened why.Memory cause refused since = lacks why.Memory refl since

  -- an accepted image is only not opened where the disk failed, or memory ran out
  pub unopened_complete : (w : OpenWhy) → Accepted (disks.reading old) → HasImageCause disks.tells (disks.reading old) (disks.faults old) (disks.faults new) w → (Accepted (disks.reading old) → (bad : BadPlace) → w ≡ why.Foreign bad → ⊥)
      → Rose (disks.faults old) (disks.faults new) ⊎ (fault_of_opening w ≡ fault.Memory)
  unopened_complete (why.Foreign bad) accepted cause not_foreign = absurd (not_foreign accepted bad refl)
  unopened_complete why.ReadFault accepted cause not_foreign = inl cause
  unopened_complete why.WriteFault accepted cause not_foreign = inl cause
  unopened_complete why.Memory accepted cause not_foreign = inr refl

  -- THE SCRIPT DOESN'T FIT
  module _ (cs : List Cell) (means : disks.tells → (s : Supply) → Means s (disks.reading old) (state_in s (words_on (disks.reading old)) cs)) where
    pub misfits : (f : Fault) → IsFitFault (atlas_state_in cs) script f → (disks.tells → HasTurnLeft (disks.reading old) → MeansSince disks old new) → KeepsMoments → StopsOpening script saw f
    misfits f is since moments = by f is
      where
        kept : IsKeptImage saw
        kept = λ told room. keeps_meaning disks counts_now told old new (since told room) (moments told room)

        by : (f : Fault) → IsFitFault (atlas_state_in cs) script f → StopsOpening script saw f
        by (fault.Script refusal) refuses = record {
          state = λ told s. (state_in s (words_on (disks.reading old)) cs, means told s, subst (λ (a : AtlasState). RefusesFor a script refusal) (sym (same_atlas s (words_on (disks.reading old)) cs)) refuses);
          kept = kept;
        }
        by fault.Memory room = kept
        by fault.Usage never = absurd never
        by (fault.Foreign block place) never = absurd never
        by fault.DiskFault never = absurd never
        by fault.Source never = absurd never
        by (fault.NoBlocks n) never = absurd never

    -- where it fits what the image means, memory ran out
    pub misfits_complete : disks.tells → (s : Supply) (w : KernelState) → Means s (disks.reading old) w → Fits (atlas_in (w 0).cell) script → (f : Fault) → IsFitFault (atlas_state_in cs) script f → f ≡ fault.Memory
    misfits_complete told s w m fits f is = by f is
      where
        same : atlas_in (w 0).cell ≡ atlas_state_in cs
        same = ap (λ (v : KernelState). atlas_in (v 0).cell) (one_meaning s (disks.reading old) w (state_in s (words_on (disks.reading old)) cs) m (means told s)) ∙ same_atlas s (words_on (disks.reading old)) cs

        by : (f : Fault) → IsFitFault (atlas_state_in cs) script f → f ≡ fault.Memory
        by (fault.Script refusal) refuses = absurd (refuses.unfit (subst (λ (a : AtlasState). Fits a script) same fits))
        by fault.Memory room = refl
        by fault.Usage never = absurd never
        by (fault.Foreign block place) never = absurd never
        by fault.DiskFault never = absurd never
        by fault.Source never = absurd never
        by (fault.NoBlocks n) never = absurd never
