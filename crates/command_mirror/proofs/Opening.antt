-- What is known of a second node whose standby was opened, or was not.
use Rattle.std.proofs.Common.{◌≡◌, ◌⊎◌, inr, ℕ, ◌≤◌, ◌^◌, List, [], ◌++◌, sym, subst, ◌∙◌, arith}
use Rattle.edge_disk.proofs.Ticks.{Rose-before}
use Rattle.edge_disk.specs.Counts.{Rose}
use Rattle.edge_disk.specs.declared.disk.Disk.{Ghosts}
use Rattle.base_types.specs.declared.histories.Entry.{Entry}
use Rattle.command_open.specs.command_promises.open_facts.Images.{HasLowEpoch}
use Rattle.command_open.specs.kernel_core_facts.Kernels.{Held, Lives}
use Rattle.command_open.specs.kernel_invariant.Beginnings.{Beginning, BeginsRight}
use Rattle.command_open.specs.store_facts.State.{books}
use Rattle.command_open.specs.table_births.Births.{atlas_state_in}
use Rattle.command_outcomes.specs.Ends.{Gains}
use Rattle.command_outcomes.specs.Seen.{Gave, SeenDisk, SeenSink, seen_disk}
use Rattle.kernel_run_facts.specs.kernel_laws.Opening.{empty_script, with_script}
use Rattle.node_mirror.specs.declared.lines.Losing.{Losing}
use Rattle.node_standby.specs.Causes.{HasStandbyCauseIn}
use Rattle.node_standby.specs.Following.{Follows}
use Rattle.node_standby.specs.Standing.{IsPlaceOf, Standing}
use Rattle.node_standby.specs.declared.faults.StandbyWhy.{StandbyWhy}
use Rattle.node_standby.specs.declared.faults.StandbyWhy.TheVariants as why
use Rattle.script_types.specs.model_kernel.Output.{output_of}
use Rattle.command_mirror.proofs.Halting.{of_unbegun, was_halted}
use Rattle.command_mirror.specs.Halts.{opening_fault}
use Rattle.command_mirror.specs.Lines.{mirror_fault_line}
use Rattle.command_mirror.specs.Playing.{IsFollowed, IsRunCause, IsSecondCause, IsUsedCause, LeavesFollowed, MirrorPlays, WasHaltedBehind, WasUnopened}
use Rattle.command_mirror.specs.Statuses.{mirror_status}
use Rattle.command_mirror.specs.declared.statuses.MirrorStatus.{MirrorStatus}
use Rattle.command_mirror.specs.declared.faults.MirrorFault.{MirrorFault}
use Rattle.command_mirror.specs.declared.faults.MirrorFault.TheVariants as mirror
use Rattle.command_mirror.specs.declared.faults.SecondFault.{SecondFault}
use Rattle.command_mirror.specs.declared.faults.SecondFault.TheVariants as second

module _ {E : Type 0} (disks : Ghosts E) (old : E) (st : Standing E) (new : E) where
  abbrev seen : SeenDisk
  seen = seen_disk disks old new

  module _ (synced : disks.faults old ≤ disks.faults st.store.disk) (later : disks.faults st.store.disk ≤ disks.faults new) where
    since : Rose (disks.faults st.store.disk) (disks.faults new) → Rose (disks.faults old) (disks.faults new)
    since rose = Rose-before (disks.faults old) (disks.faults st.store.disk) (disks.faults new) synced later rose

    pub run_causes : (f : SecondFault) → IsRunCause (Rose (disks.faults st.store.disk) (disks.faults new)) f → IsSecondCause seen f
    run_causes (second.Foreign block place) h = absurd h
    run_causes second.DiskFault h = since h
    run_causes second.Memory h = h
    run_causes (second.NoBlocks n) h = h

    pub followed_seen : (gave : Gave) (kept made : ℕ) → (disks.tells → IsPlaceOf (disks.reading old) (books st.store).place)
        → ((b : Beginning) → BeginsRight b → (books st.store).place.epoch ≤ 2 ^ 61 → Follows b [] disks st) → (b : Beginning) → BeginsRight b → LeavesFollowed disks st new b gave kept made → IsFollowed seen b gave kept made
    followed_seen gave kept made place begins b right h = record {
      made_is = h.made_is;
      images = λ told low c may. h.images told (followed told low) c may;
      calm = λ told low still c may. h.calm told (followed told low) (λ rose. still (since rose)) c may;
    }
      where
        followed : disks.tells → HasLowEpoch (disks.reading old) → Follows b [] disks st
        followed told low =
            let at = place told in
            begins b right (let below = low (books st.store).place.active at.active in let is = at.epoch in omega (arith, below, is))

-- THE STANDBY WAS NOT OPENED, and nothing was run
module _ {D E : Type 0} (disks : Ghosts D) (seconds : Ghosts E) (old new : E) (k : Held D) (sink : SeenSink) (gave : Gave) (disk : D)
    (history : gave.history ≡ k.parts.noted.entries) (marks : gave.marks ≡ k.parts.noted.marks) (same : disk ≡ k.parts.store.disk) (nothing : k.parts.noted.entries ≡ [])
    (kept made : ℕ) (none_kept : kept ≡ 0) (none_made : made ≡ 0) (reading : seconds.tells → seconds.reading new ≡ seconds.reading old)
    (starts followed : Beginning → Type 0) (rose : Type 0) (count : ℕ) (losing : Losing)
    (begins : (b : Beginning) → starts b → BeginsRight b) (lives : (b : Beginning) → starts b → Lives disks (with_script b (empty_script b.script.steps)) k) where
  abbrev beside : SeenDisk
  beside = seen_disk seconds old new

  abbrev none : Type 0
  none = WasUnopened beside gave kept made

  behind : (far : Beginning → Type 0) → ((b : Beginning) → none → far b) → (f : MirrorFault) → Gains sink (mirror_fault_line f) → disks.tells → (b : Beginning) → starts b
      → WasHaltedBehind disks starts followed (IsSecondCause beside) (IsUsedCause beside) none rose count losing sink gave kept made disk b f (far b)
  behind far so f put told b start = record {
    halted =
        was_halted disks k sink gave disk history marks same b (mirror_fault_line f) (of_unbegun disks k sink gave disk history marks same b (begins b start) nothing (lives b start))
        (subst (λ (es : List Entry). Gains sink (output_of (atlas_state_in k.parts.cells) es ++ mirror_fault_line f)) (sym nothing) put);
    follows = so b (record { history = history ∙ nothing; kept_is = none_kept; made_is = none_made; reading = reading });
  }

  abbrev either : Beginning → Type 0
  either b = followed b ⊎ none

  pub opening_plays : (w : StandbyWhy) (status : MirrorStatus) → status ≡ mirror_status (opening_fault w) → HasStandbyCauseIn seconds old new w → Gains sink (mirror_fault_line (opening_fault w))
      → MirrorPlays disks starts followed (IsSecondCause beside) (IsUsedCause beside) none rose count losing sink gave kept made disk status
  opening_plays (why.Foreign bad) status is cause put = inr (inr (opening_fault (why.Foreign bad), is, (cause, behind (λ b. none) (λ b was. was) (opening_fault (why.Foreign bad)) put)))
  opening_plays (why.NotEmpty used) status is cause put = inr (inr (mirror.NotEmpty used, is, (cause, behind (λ b. none) (λ b was. was) (mirror.NotEmpty used) put)))
  opening_plays why.ReadFault status is cause put = inr (inr (mirror.Second second.DiskFault, is, (cause, behind either (λ b was. inr was) (mirror.Second second.DiskFault) put)))
  opening_plays why.WriteFault status is cause put = inr (inr (mirror.Second second.DiskFault, is, (cause, behind either (λ b was. inr was) (mirror.Second second.DiskFault) put)))
  opening_plays why.Memory status is cause put = inr (inr (mirror.Second second.Memory, is, (tt, behind either (λ b was. inr was) (mirror.Second second.Memory) put)))
