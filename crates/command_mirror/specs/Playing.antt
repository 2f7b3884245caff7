-- What a mirrored run leaves of a first node whose image was opened for it, in the words of the disk's trait.
use Rattle.std.specs.Prelude.{◌≡◌, ◌⊎◌, ◌<◌, ◌+◌, ◌++◌, ℕ, [], None, Option, Some, length, ⊤}
use Rattle.std.specs.Io.KnownBytes.{Appends}
use Rattle.edge_streams.specs.Streams.{AppendsPart}
use Rattle.edge_disk.specs.Counts.{Rose}
use Rattle.edge_disk.specs.Image.{Image}
use Rattle.edge_disk.specs.declared.disk.Disk.{Ghosts}
use Rattle.edge_disk.specs.declared.disk.NoBlocks.{NoBlocks}
use Rattle.script_types.specs.model_kernel.Output.{output_of}
use Rattle.script_types.specs.model_kernel.State.{Text}
use Rattle.drawn_words.specs.Words.{words_numbered}
use Rattle.command_open.specs.command_promises.open_facts.Images.{HasLowEpoch}
use Rattle.command_open.specs.command_promises.model_serial.Serial.{IsStopped}
use Rattle.command_open.specs.command_promises.Playing.{HasRun, HasServed, WasCutForBlocks}
use Rattle.command_open.specs.command_promises.Manners.{serial, told}
use Rattle.command_open.specs.command_promises.store_facts.image_blocks.Checks.{records_fault}
use Rattle.command_open.specs.kernel_invariant.Beginnings.{Beginning, completed}
use Rattle.command_outcomes.specs.Ends.{Gains}
use Rattle.command_outcomes.specs.Seen.{Gave, SeenDisk, SeenSink}
use Rattle.command_outcomes.specs.declared.faults.Fault.TheVariants as fault
use Rattle.node_mirror.specs.Leaving.{HasMirrored}
use Rattle.node_mirror.specs.declared.lines.Losing.{Losing}
use Rattle.node_standby.specs.Causes.{HasUsed}
use Rattle.node_standby.specs.Following.{Follows, IsImageBetween}
use Rattle.node_standby.specs.Standing.{Standing}
use Rattle.command_mirror.specs.Lines.{mirror_fault_line, with_counts}
use Rattle.command_mirror.specs.Statuses.{mirror_status}
use Rattle.command_mirror.specs.declared.faults.MirrorFault.{MirrorFault}
use Rattle.command_mirror.specs.declared.faults.MirrorFault.TheVariants as mirror
use Rattle.command_mirror.specs.declared.faults.SecondFault.{SecondFault}
use Rattle.command_mirror.specs.declared.faults.SecondFault.TheVariants as beside
use Rattle.command_mirror.specs.declared.statuses.MirrorStatus.{MirrorStatus}
use Rattle.command_mirror.specs.declared.statuses.MirrorStatus.TheVariants.{Done, First}
use Rattle.command_mirror.specs.declared.statuses.MirrorWhy.TheVariants.{SinkFault}

-- what was put, and how it ended: all lines and the counts, or a front of them where the sink's count of faults rose; or the lines and that of a fault
abbrev pub IsPutMirrored : Option MirrorFault → SeenSink → Text → Text → MirrorStatus → Type 0
IsPutMirrored None sink lines counts status =
    ((status ≡ Done) × Appends sink.before sink.after (lines ++ counts)) ⊎ ((status ≡ First SinkFault) × AppendsPart sink.before sink.after (lines ++ counts) × sink.rose)
IsPutMirrored (Some f) sink lines counts status = (status ≡ mirror_status f) × Gains sink (lines ++ mirror_fault_line f)

-- OF THE SECOND NODE, in a run whose standby was opened: how many commits the run has completed; and each image that a stop may leave of the second disk is one of its
-- first commits, as many as were taken, and one more only where the disk's count of faults rose
pub record IsFollowed (second : SeenDisk) (b : Beginning) (gave : Gave) (kept made : ℕ) : Type 0 where
  pub made_is : made ≡ length (completed b gave.history)
  pub images : second.tells → HasLowEpoch second.before.reading → (c : Image) → second.after.may c → IsImageBetween b gave.history kept (kept + 1) c
  pub calm : second.tells → HasLowEpoch second.before.reading → (second.rose → ⊥) → (c : Image) → second.after.may c → IsImageBetween b gave.history kept kept c

-- nothing was run, since the standby was not opened, and its image reads as before
pub record WasUnopened (second : SeenDisk) (gave : Gave) (kept made : ℕ) : Type 0 where
  pub history : gave.history ≡ []
  pub kept_is : kept ≡ 0
  pub made_is : made ≡ 0
  pub reading : second.tells → second.after.reading ≡ second.before.reading

-- WHY THE SECOND NODE STOPPED THE CALL: a bad place is the first one of its image; a call of its disk failed only where the count of faults rose; and fewer blocks are
-- free than are needed
abbrev pub IsSecondCause : SeenDisk → SecondFault → Type 0
IsSecondCause disk (beside.Foreign block place) = disk.tells → records_fault disk.before.reading ≡ Some (record { block = block; place = place })
IsSecondCause disk beside.DiskFault = disk.rose
IsSecondCause disk beside.Memory = ⊤
IsSecondCause disk (beside.NoBlocks n) = n.free < n.need

-- the log has so many records
abbrev pub IsUsedCause : SeenDisk → ℕ → Type 0
IsUsedCause disk used = disk.tells → HasUsed used disk.before.reading

-- WHY ONE STOPPED THE RUN, by its disk's count of faults: no image is opened there
abbrev pub IsRunCause : Type 0 → SecondFault → Type 0
IsRunCause rose (beside.Foreign block place) = ⊥
IsRunCause rose beside.DiskFault = rose
IsRunCause rose beside.Memory = ⊤
IsRunCause rose (beside.NoBlocks n) = n.free < n.need

-- HOW FAR THE SECOND NODE CAME, where it stopped the call: an image that is refused was never opened, and blocks were too few for a record of the run
abbrev pub ComesSoFar : Type 0 → Type 0 → SecondFault → Type 0
ComesSoFar followed unopened (beside.Foreign block place) = unopened
ComesSoFar followed unopened beside.DiskFault = followed ⊎ unopened
ComesSoFar followed unopened beside.Memory = followed ⊎ unopened
ComesSoFar followed unopened (beside.NoBlocks n) = followed

-- WHAT IS LEFT OF A STANDBY that followed the run from its start, and of its disk: the same of the commits and of each image
pub record LeavesFollowed {E : Type 0} (disks : Ghosts E) (st : Standing E) (new : E) (b : Beginning) (gave : Gave) (kept made : ℕ) : Type 0 where
  pub made_is : made ≡ length (completed b gave.history)
  pub images : disks.tells → Follows b [] disks st → (c : Image) → disks.may_leave new c → IsImageBetween b gave.history kept (kept + 1) c
  pub calm : disks.tells → Follows b [] disks st → (Rose (disks.faults st.store.disk) (disks.faults new) → ⊥) → (c : Image) → disks.may_leave new c → IsImageBetween b gave.history kept kept c

module _ {D : Type 0} (disks : Ghosts D) where
  -- HALTED somewhere in its serial history, of which the lines were put, and behind them that of the fault
  pub record WasHalted (b : Beginning) (sink : SeenSink) (gave : Gave) (disk : D) (line : Text) : Type 0 where
    pub run : HasRun disks b gave disk
    pub part : IsStopped b.supply b.policy b.script b.state gave.history
    pub output : Gains sink (told output_of b gave.history ++ line)

  -- where this holds of each run that the standby followed, these are the causes at the second node, and this holds where the standby was not opened
  module _ (starts followed : Beginning → Type 0) (cause : SecondFault → Type 0) (used : ℕ → Type 0) (unopened : Type 0) (rose : Type 0) (count : ℕ) (losing : Losing) (sink : SeenSink) (gave : Gave) (kept made : ℕ) (disk : D) where
    -- in each run that starts so, where the disk tells its content
    abbrev pub InEach : (Beginning → Type 0) → Type 0
    InEach P = disks.tells → (b : Beginning) → starts b → P b

    -- WHOLE, with all its rounds as they are drawn
    pub record WasWhole (b : Beginning) (Puts : Text → Type 0) : Type 0 where
      pub served : HasServed disks (serial (with_counts kept made)) b gave disk Puts
      pub follows : followed b
      pub course : HasMirrored b gave.history losing.loss (words_numbered losing.seed 55) made kept
      pub lossless : losing.loss ≡ 0 → kept ≡ made

    -- HALTED, and followed so far
    pub record WasHaltedSo (b : Beginning) (f : MirrorFault) : Type 0 where
      pub halted : WasHalted b sink gave disk (mirror_fault_line f)
      pub follows : followed b

    -- for want of blocks
    pub record WasShort (b : Beginning) (n : NoBlocks) : Type 0 where
      pub short : WasCutForBlocks disks (serial output_of) b count sink gave disk n
      pub follows : followed b

    -- by the second node, which came so far
    pub record WasHaltedBehind (b : Beginning) (f : MirrorFault) (far : Type 0) : Type 0 where
      pub halted : WasHalted b sink gave disk (mirror_fault_line f)
      pub follows : far

    -- STOPPED by this fault
    abbrev pub StopsMirror : MirrorFault → Type 0
    StopsMirror (mirror.First (fault.NoBlocks n)) = InEach (λ b. WasShort b n)
    StopsMirror (mirror.First fault.DiskFault) = rose × InEach (λ b. WasHaltedSo b (mirror.First fault.DiskFault))
    StopsMirror (mirror.First fault.Memory) = InEach (λ b. WasHaltedSo b (mirror.First fault.Memory))
    StopsMirror (mirror.First fault.Usage) = ⊥
    StopsMirror (mirror.First (fault.Script refusal)) = ⊥
    StopsMirror (mirror.First (fault.Foreign block place)) = ⊥
    StopsMirror (mirror.First fault.Source) = ⊥
    StopsMirror (mirror.Second f) = cause f × InEach (λ b. WasHaltedBehind b (mirror.Second f) (ComesSoFar (followed b) unopened f))
    StopsMirror (mirror.NotEmpty many) = used many × InEach (λ b. WasHaltedBehind b (mirror.NotEmpty many) unopened)

    -- WHAT IT LEAVES, by how it ended
    abbrev pub MirrorPlays : MirrorStatus → Type 0
    MirrorPlays status =
        ((status ≡ Done) × InEach (λ b. WasWhole b (Appends sink.before sink.after)))
        ⊎ ((status ≡ First SinkFault) × InEach (λ b. WasWhole b (AppendsPart sink.before sink.after)) × sink.rose)
        ⊎ ((f : MirrorFault) × (status ≡ mirror_status f) × StopsMirror f)
