-- What a kernel leaves of a run, from what it made and what was put.
use Rattle.std.proofs.Common.{◌≡◌, ◌++◌, ◌<◌, ℕ, Bool, false, true, List, Option, None, Some, refl, sym, ap, subst, ◌∙◌}
use Rattle.std.specs.Prelude.{IfErr, Result, ⊤}
use Rattle.edge_disk.specs.Counts.{Rose}
use Rattle.edge_disk.specs.declared.disk.Disk.{Ghosts}
use Rattle.edge_disk.specs.declared.disk.NoBlocks.{NoBlocks}
use Rattle.base_types.specs.declared.histories.Entry.{Entry}
use Rattle.image_facts.specs.model_kernel.Histories.{Policy}
use Rattle.image_facts.specs.model_kernel.State.{AtlasState, KernelState, Text}
use Rattle.image_facts.specs.model_kernel.Steps.{atlas_in}
use Rattle.kernel_runs.specs.kernel_commit_facts.Parts.{Parts}
use Rattle.kernel_runs.specs.kernel_commit_facts.Short.{AreWithin}
use Rattle.kernel_runs.specs.kernel_commits.Stops.{IsCause}
use Rattle.kernel_runs.specs.kernel_commits.Telling.{Tells}
use Rattle.kernel_runs.specs.kernel_commits.declared.stopping.Stop.{Stop}
use Rattle.kernel_runs.proofs.kernel_run_facts_lemmas.Caused.{cause_kept}
use Rattle.open_kernel.specs.kernel_invariant.declared.stopping.Stopped.{Stopped}
use Rattle.open_kernel.specs.kernel_invariant.declared.stopping.Stopped.TheVariants as reason
use Rattle.kernel_runs.specs.kernel_core_facts.Kernels.{Held, Lives}
use Rattle.open_kernel.specs.kernel_invariant.Beginnings.{Beginning, state_after}
use Rattle.open_kernel.specs.kernel_invariant.Live.{IsRunning, KernelView}
use Rattle.open_kernel.specs.kernel_block_laws.Room.{enough_blocks}
use Rattle.kernel_runs.specs.kernel_run_facts.Running.{EndsRun, IsCauseOf}
use Rattle.open_kernel.specs.kernel_views.Views.{view_of}
use Rattle.open_kernel.specs.kernel_record_facts.Cells.{words_on}
use Rattle.open_kernel.specs.store_facts.State.{books}
use Rattle.kernel_runs.specs.table_births.Births.{atlas_state_in}
use Rattle.kernel_runs.proofs.table_births_lemmas.AtlasStates.{same_atlas}
use Rattle.command_source.specs.command_outcomes.Ends.{Gains}
use Rattle.command_source.specs.command_outcomes.Faults.{fault_line}
use Rattle.command_source.specs.command_outcomes.Seen.{Gave, SeenSink}
use Rattle.command_source.specs.command_outcomes.Statuses.{ending, status_by}
use Rattle.command_source.specs.command_outcomes.declared.faults.Fault.{Fault}
use Rattle.command_source.specs.command_outcomes.declared.faults.Fault.TheVariants as fault
use Rattle.command_source.specs.command_outcomes.declared.statuses.Status.{Status}
use Rattle.command_source.proofs.command_outcomes_lemmas.Endings.{fault_ends, put_ends}
use Rattle.command_promises.specs.Manners.{Manner, Telling, serial, told}
use Rattle.command_promises.specs.Playing.{EndsAs, HasRun, HasServed, InEach, IsPutBy, PlayLeaves, StopsPlay, WasCutForBlocks, WasCutForMemory, WasCutShort, WasLeftSo, fault_met}

-- why a kernel has stopped, where the count of faults rose or not
abbrev pub IsCauseBy : Type 0 → Stopped → Type 0
IsCauseBy rose (reason.NoBlocks n) = n.free < n.need
IsCauseBy rose reason.ReadFault = rose
IsCauseBy rose reason.WriteFault = rose

by_cause : {D : Type 0} (faults : D → ℕ) (old new : Parts D) (disk : D) → disk ≡ new.store.disk → (why : Stopped) → IsCause faults old new why
    → IsCauseBy (Rose (faults old.store.disk) (faults disk)) why
by_cause {D = D} faults old new disk is (reason.NoBlocks n) cause = cause
by_cause {D = D} faults old new disk is reason.ReadFault cause = subst (λ (d : D). Rose (faults old.store.disk) (faults d)) (sym is) cause
by_cause {D = D} faults old new disk is reason.WriteFault cause = subst (λ (d : D). Rose (faults old.store.disk) (faults d)) (sym is) cause

-- by what the run answered
pub by_answer : {D : Type 0} (disks : Ghosts D) (policy : Policy) (old new : Parts D) (disk : D) → disk ≡ new.store.disk → (r : Result ⊤ Stop) (o : Option Stopped) → Tells r o → IfErr r (IsCauseOf disks policy old new)
    → (why : Stopped) → o ≡ Some why → IsCauseBy (Rose (disks.faults old.store.disk) (disks.faults disk)) why
by_answer disks policy old new disk same r o tells cause why is = by_cause disks.faults old new disk same why (cause_kept disks policy old new r o tells cause why is)

-- a run that met a fault was told so
pub put_met : (o : Option Fault) (met : Fault) (sink : SeenSink) (bytes : Text) (status : Status) → o ≡ Some met → status ≡ status_by met → Gains sink (bytes ++ fault_line met) → IsPutBy o sink bytes status
put_met o met sink bytes status is by put = subst (λ (f : Option Fault). IsPutBy f sink bytes status) (sym is) (by, put)

-- what a serial run leaves of its kernel
module _ {D : Type 0} (disks : Ghosts D) (telling : Telling) (b : Beginning) (new : Held D) (ends : EndsRun disks b new) where
  lives_by : (o : Option Stopped) → new.stop ≡ o → Lives disks b new
  lives_by None is = (ends.over is).lives
  lives_by (Some why) is = (ends.stopped why is).lives

  pub ends_serial : EndsAs disks (serial telling) b false new
  ends_serial = record {
    lives = lives_by new.stop refl;
    over = λ is no. (ends.over is).whole;
    stopped = λ why is. (ends.stopped why is).part;
    short = λ n is. (let s = (ends.stopped (reason.NoBlocks n) is).short n is in (s.lacks, s.due, s.within));
    lacking = λ is yes. absurd (false_true yes);
  }
    where
      false_true : false ≡ true → ⊥
      false_true e = cc

-- a kernel that is live in a run has made its history, and the lines by the names that are left are the run's own
module _ {D : Type 0} (disks : Ghosts D) (telling : Telling) (new : Held D) (gave : Gave) (disk : D)
    (history : gave.history ≡ new.parts.noted.entries) (marks : gave.marks ≡ new.parts.noted.marks) (same : disk ≡ new.parts.store.disk) (b : Beginning) (lives : Lives disks b new) where
  pub has_run : HasRun disks b gave disk
  has_run =
      let view : KernelView = view_of disks.reading b new.parts.cells new.parts.store new.parts.noted.entries new.parts.noted.marks new.stop in
      record { view = view; running = subst (λ (d : D). IsRunning b disks view d) (sym same) lives.live.running; history = sym history; marks = sym marks }

  pub lines_same : telling (atlas_state_in new.parts.cells) new.parts.noted.entries ≡ told telling b gave.history
  lines_same =
      let names : atlas_state_in new.parts.cells ≡ atlas_in (state_after b new.parts.noted.entries 0).cell = sym (same_atlas b.supply (words_on (disks.reading new.parts.store.disk)) new.parts.cells) ∙ ap (λ (w : KernelState). atlas_in (w 0).cell) lives.live.running.follows.state in
      ap (λ (a : AtlasState). telling a new.parts.noted.entries) names ∙ ap (told telling b) (sym history)

module _ {D : Type 0} (disks : Ghosts D) (manner : Manner) (lacked : Bool) (new : Held D) (sink : SeenSink) (gave : Gave) (disk : D)
    (history : gave.history ≡ new.parts.noted.entries) (marks : gave.marks ≡ new.parts.noted.marks) (same : disk ≡ new.parts.store.disk) where
  -- the lines by the names that are left
  abbrev lines : Text
  lines = manner.telling (atlas_state_in new.parts.cells) new.parts.noted.entries

  -- IN ONE RUN
  module _ (b : Beginning) (ends : EndsAs disks manner b lacked new) where
    ran : HasRun disks b gave disk
    ran = has_run disks manner.telling new gave disk history marks same b ends.lives

    own : lines ≡ told manner.telling b gave.history
    own = lines_same disks manner.telling new gave disk history marks same b ends.lives

    pub served : new.stop ≡ None → lacked ≡ false → (Puts : Text → Type 0) → Puts (lines) → HasServed disks manner b gave disk Puts
    served going fed Puts put = record {
      run = ran;
      whole = subst (manner.whole b) (sym history) (ends.over going fed);
      output = subst Puts own put;
    }

    left_so : (so_far : Beginning → List Entry → Type 0) → so_far b new.parts.noted.entries → (f : Fault) → Gains sink (lines ++ fault_line f) → WasLeftSo disks manner.telling so_far b sink gave disk f
    left_so so_far part f put = record {
      run = ran;
      part = subst (so_far b) (sym history) part;
      output = subst (λ (text : Text). Gains sink (text ++ fault_line f)) own put;
    }

    pub cut : (why : Stopped) → new.stop ≡ Some why → (f : Fault) → Gains sink (lines ++ fault_line f) → WasCutShort disks manner b sink gave disk f
    cut why is f put = left_so manner.part (ends.stopped why is) f put

    cut_for_memory : new.stop ≡ None → lacked ≡ true → Gains sink (lines ++ fault_line fault.Memory) → WasCutForMemory disks manner b sink gave disk
    cut_for_memory going lack put = left_so manner.lacking (ends.lacking going lack) fault.Memory put

    -- for want of blocks
    pub cut_for : (count : ℕ) (n : NoBlocks) → new.stop ≡ Some (reason.NoBlocks n) → n.free < n.need → (books new.parts.store).count ≡ count
        → Gains sink (lines ++ fault_line (fault.NoBlocks n)) → WasCutForBlocks disks manner b count sink gave disk n
    cut_for count n at fewer same_count put = record {
      cut = cut (reason.NoBlocks n) at (fault.NoBlocks n) put;
      short =
          let s = ends.short n at in
          record {
            few =
                subst (λ (blocks : ℕ). blocks < enough_blocks (state_after b gave.history)) same_count
                (subst (λ (es : List Entry). (books new.parts.store).count < enough_blocks (state_after b es)) (sym history) s.0);
            fewer = fewer;
            due = subst (manner.due b) (sym history) s.1;
            within =
                subst (λ (blocks : ℕ). AreWithin (state_after b gave.history) blocks n) same_count
                (subst (λ (es : List Entry). AreWithin (state_after b es) (books new.parts.store).count n) (sym history) s.2);
          };
    }

  -- WHAT IT LEAVES
  module _ (starts : Beginning → Type 0) (rose : Type 0) (count : ℕ) (same_count : (books new.parts.store).count ≡ count) (may : lacked ≡ true → manner.may_lack) where
    abbrev Ends : Type 0
    Ends = disks.tells → (b : Beginning) → starts b → EndsAs disks manner b lacked new

    abbrev Each : (Beginning → Type 0) → Type 0
    Each P = InEach disks manner starts rose count sink gave disk P

    abbrev Whole : (Text → Type 0) → Type 0
    Whole Puts = Each (λ b. HasServed disks manner b gave disk Puts)

    abbrev Stops : Fault → Type 0
    Stops f = StopsPlay disks manner starts rose count sink gave disk f

    abbrev Caused : Option Stopped → Type 0
    Caused o = (why : Stopped) → o ≡ Some why → IsCauseBy rose why

    abbrev Leaves : Type 0
    Leaves = PlayLeaves disks manner starts rose count sink gave disk (ending gave.status)

    play_on : (l : Bool) → lacked ≡ l → new.stop ≡ None → Ends → IsPutBy (fault_met None l) sink (lines) gave.status → Leaves
    play_on false fed is ends put =
        put_ends sink Whole Stops gave.status (lines) put (λ Puts all told b start. served b (ends told b start) is fed Puts all)
    play_on true lack is ends put =
        fault_ends sink Whole Stops gave.status fault.Memory put.0 (may lack, λ told b start. cut_for_memory b (ends told b start) is lack put.1)

    play_by : (o : Option Stopped) → new.stop ≡ o → Ends → Caused o → IsPutBy (fault_met o lacked) sink (lines) gave.status → Leaves
    play_by None is ends caused put = play_on lacked refl is ends put
    play_by (Some (reason.NoBlocks n)) is ends caused put =
        fault_ends sink Whole Stops gave.status (fault.NoBlocks n) put.0 (λ told b start. cut_for b (ends told b start) count n is (caused (reason.NoBlocks n) refl) same_count put.1)
    play_by (Some reason.ReadFault) is ends caused put =
        fault_ends sink Whole Stops gave.status fault.DiskFault put.0 (caused reason.ReadFault refl, λ told b start. cut b (ends told b start) reason.ReadFault is fault.DiskFault put.1)
    play_by (Some reason.WriteFault) is ends caused put =
        fault_ends sink Whole Stops gave.status fault.DiskFault put.0 (caused reason.WriteFault refl, λ told b start. cut b (ends told b start) reason.WriteFault is fault.DiskFault put.1)

    pub play_leaves : Ends → Caused new.stop → IsPutBy (fault_met new.stop lacked) sink (lines) gave.status → Leaves
    play_leaves ends caused put = play_by new.stop refl ends caused put
