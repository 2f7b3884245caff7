-- What a mirrored run leaves.
use Rattle.std.specs.Prelude.{◌≡◌, ◌≢◌, ◌⊎◌, ◌++◌, ◌+◌, ◌*◌, ◌<◌, ℕ, [], codes, replicate, string_bytes, ⊤}
use Rattle.std.specs.Io.KnownBytes.{Appends}
use Rattle.edge_streams.specs.Streams.{AppendsPart}
use Rattle.edge_disk.specs.declared.disk.NoBlocks.{NoBlocks}
use Rattle.base_managers.specs.Managing.{ManagerTables}
use Rattle.drawn_words.specs.Words.{words_numbered}
use Rattle.script_types.specs.declared.refusals.Why.TheVariants.{Unknown}
use Rattle.script_types.specs.model_kernel.Output.{output_of}
use Rattle.script_types.specs.model_kernel.Scripts.{Script as Tables}
use Rattle.script_types.specs.model_kernel.State.{Text}
use Rattle.command_open.specs.command_promises.model_serial.Serial.{IsStopped}
use Rattle.command_open.specs.command_promises.Booked.{none_brought}
use Rattle.command_open.specs.command_promises.Leaving.{CanRun, IsLeftInTime}
use Rattle.command_open.specs.command_promises.Manners.{serial, told}
use Rattle.command_open.specs.command_promises.OfScript.{InRun, IsLeftUnopened}
use Rattle.command_open.specs.command_promises.Openings.{IsKeptImage, Managers, StaysAsRead}
use Rattle.command_open.specs.command_promises.Ready.{HasMisfit}
use Rattle.command_open.specs.command_promises.Runs.{IsRun, IsServed}
use Rattle.command_open.specs.command_promises.Short.{IsCutForBlocks}
use Rattle.command_open.specs.kernel_invariant.Beginnings.{Beginning}
use Rattle.command_open.specs.command_promises.image_meaning.Foreign.{IsForeign}
use Rattle.command_outcomes.specs.Ends.{Gains, IsUnrun}
use Rattle.command_outcomes.specs.Seen.{Call, Gave, SeenDisk, SeenSink}
use Rattle.command_outcomes.specs.declared.faults.Fault.{Fault}
use Rattle.command_outcomes.specs.declared.faults.Fault.TheVariants as fault
use Rattle.command_source.specs.Sources.{HasRead, StopsSource}
use Rattle.node_draws.specs.Courses.{rounds_of}
use Rattle.node_looks.specs.Looks.{commits_behind}
use Rattle.node_mirror.specs.Leaving.{HasMirrored}
use Rattle.node_mirror.specs.Mirrors.{at_start}
use Rattle.node_mirror.specs.declared.lines.Losing.{Losing}
use Rattle.command_mirror.specs.Lines.{mirror_fault_line, with_counts}
use Rattle.command_mirror.specs.Playing.{ComesSoFar, IsFollowed, IsSecondCause, IsUsedCause, WasUnopened}
use Rattle.command_mirror.specs.Statuses.{mirror_status}
use Rattle.command_mirror.specs.declared.faults.MirrorFault.{MirrorFault}
use Rattle.command_mirror.specs.declared.faults.MirrorFault.TheVariants as mirror
use Rattle.command_mirror.specs.declared.statuses.MirrorStatus.{MirrorStatus}
use Rattle.command_mirror.specs.declared.statuses.MirrorStatus.TheVariants.{Done, First, Second}
use Rattle.command_mirror.specs.declared.statuses.MirrorWhy.TheVariants.{Memory, SinkFault}
use Rattle.node_standby.specs.Causes.{IsEmptyImage}

-- HALTED somewhere in its serial history: what is kept of it, the lines so far, and behind them that of the fault
pub record IsHalted (b : Beginning) (disk : SeenDisk) (sink : SeenSink) (gave : Gave) (line : Text) : Type 0 where
  pub run : IsRun b disk gave
  pub part : IsStopped b.supply b.policy b.script b.state gave.history
  pub output : Gains sink (told output_of b gave.history ++ line)

module _ (disk second : SeenDisk) (sink : SeenSink) (losing : Losing) (gave : Gave) (kept made : ℕ) where
  -- WHOLE: the serial run, which the standby followed with all rounds as they are drawn; where nothing can be lost it has taken all, and where it lacks some,
  -- something was not acknowledged before each of the last rounds
  pub record IsMirrored (b : Beginning) (Puts : Text → Type 0) : Type 0 where
    pub served : IsServed (serial (with_counts kept made)) b disk gave Puts
    pub follows : IsFollowed second b gave kept made
    pub course : HasMirrored b gave.history losing.loss (words_numbered losing.seed 55) made kept
    pub lossless : losing.loss ≡ 0 → kept ≡ made
    pub lacking : kept < made → (before : ℕ) → before < 4 * made + 1000
        → (rounds_of losing.loss (commits_behind b gave.history ++ replicate before made) (at_start (words_numbered losing.seed 55))).tally.acked < made

  -- HALTED by the first node, and followed so far
  pub record IsHaltedSo (b : Beginning) (f : MirrorFault) : Type 0 where
    pub halted : IsHalted b disk sink gave (mirror_fault_line f)
    pub follows : IsFollowed second b gave kept made

  -- stopped for want of blocks of the first disk, and followed so far
  pub record IsShort (b : Beginning) (n : NoBlocks) : Type 0 where
    pub short : IsCutForBlocks (serial output_of) b disk sink gave n
    pub follows : IsFollowed second b gave kept made

  -- HALTED by the second node, which came so far
  pub record IsHaltedBehind (b : Beginning) (f : MirrorFault) (far : Type 0) : Type 0 where
    pub halted : IsHalted b disk sink gave (mirror_fault_line f)
    pub follows : far

  -- of the runs that these are, and of a first image that was not opened
  module _ (Of : (Beginning → Type 0) → Type 0) (unopened : Fault → Type 0) where
    -- STOPPED by this fault
    abbrev pub MirrorStops : MirrorFault → Type 0
    MirrorStops (mirror.First fault.Usage) = ⊥
    MirrorStops (mirror.First (fault.Script refusal)) = unopened (fault.Script refusal)
    MirrorStops (mirror.First (fault.Foreign block place)) = unopened (fault.Foreign block place)
    MirrorStops (mirror.First fault.DiskFault) = disk.rose × (unopened fault.DiskFault ⊎ Of (λ b. IsHaltedSo b (mirror.First fault.DiskFault)))
    MirrorStops (mirror.First fault.Source) = unopened fault.Source
    MirrorStops (mirror.First fault.Memory) = unopened fault.Memory ⊎ Of (λ b. IsHaltedSo b (mirror.First fault.Memory))
    MirrorStops (mirror.First (fault.NoBlocks n)) = Of (λ b. IsShort b n)
    MirrorStops (mirror.Second f) = IsSecondCause second f × Of (λ b. IsHaltedBehind b (mirror.Second f) (ComesSoFar (IsFollowed second b gave kept made) (WasUnopened second gave kept made) f))
    MirrorStops (mirror.NotEmpty used) = IsUsedCause second used × Of (λ b. IsHaltedBehind b (mirror.NotEmpty used) (WasUnopened second gave kept made))

    -- by how it ended: whole, with all its lines put; whole, but its lines went out in part, since the sink failed; or stopped
    abbrev pub MirrorEnds : MirrorStatus → Type 0
    MirrorEnds status =
        ((status ≡ Done) × Of (λ b. IsMirrored b (Appends sink.before sink.after)))
        ⊎ ((status ≡ First SinkFault) × Of (λ b. IsMirrored b (AppendsPart sink.before sink.after)) × sink.rose)
        ⊎ ((f : MirrorFault) × (status ≡ mirror_status f) × MirrorStops f)

-- WHY THE FIRST IMAGE WAS NOT OPENED for this script, and what stays of it: as of a run
abbrev pub LeavesUnopened : Tables → SeenDisk → Fault → Type 0
LeavesUnopened script disk (fault.Script refusal) = HasMisfit script disk refusal
LeavesUnopened script disk (fault.Foreign block place) = disk.tells → IsForeign disk.before.reading (record { block = block; place = place }) × StaysAsRead disk
LeavesUnopened script disk fault.DiskFault = IsLeftUnopened disk
LeavesUnopened script disk fault.Memory = IsKeptImage disk
LeavesUnopened script disk fault.Usage = ⊥
LeavesUnopened script disk fault.Source = ⊥
LeavesUnopened script disk (fault.NoBlocks n) = ⊥

-- then nothing was run, the line of the fault was put, and the second disk is as it was
pub record UnopenedScript (script : Tables) (sink : SeenSink) (disk second : SeenDisk) (gave : Gave) (f : Fault) : Type 0 where
  pub unrun : IsUnrun sink gave f
  pub first : LeavesUnopened script disk f
  pub same : second.same

-- WHAT THE MIRRORED RUN OF A SCRIPT LEAVES that was read
abbrev pub ScriptMirrors : Managers → Tables → SeenSink → SeenDisk → SeenDisk → Losing → Gave → ℕ → ℕ → MirrorStatus → Type 0
ScriptMirrors m script sink disk second losing gave kept made status = MirrorEnds disk second sink losing gave kept made (InRun m script disk) (UnopenedScript script sink disk second gave) status

-- the source was read, and stands for a script that brings no managers, of which this holds
pub record OfPlain (call : Call) (P : Tables → Type 0) : Type 0 where
  pub script : Tables
  pub read : HasRead call.source script none_brought
  pub holds : P script

-- THE SOURCE WAS REFUSED, or could not be read: as of a run
pub record IsUnread (call : Call) (f : Fault) : Type 0 where
  pub stops : StopsSource call.source f
  pub time : IsLeftInTime call f

-- the refusal of a script that brings these managers, unless memory ran out for it
abbrev pub IsManagedFault : ManagerTables → Fault → Type 0
IsManagedFault brought (fault.Script refusal) =
    (refusal.why ≡ Unknown) × (((brought.supply ≢ []) × (string_bytes refusal.key ≡ codes "supply")) ⊎ ((brought.supply ≡ []) × (brought.policy ≢ []) × (string_bytes refusal.key ≡ codes "policy")))
IsManagedFault brought fault.Memory = ⊤
IsManagedFault brought fault.Usage = ⊥
IsManagedFault brought (fault.Foreign block place) = ⊥
IsManagedFault brought fault.DiskFault = ⊥
IsManagedFault brought fault.Source = ⊥
IsManagedFault brought (fault.NoBlocks n) = ⊥

-- A SCRIPT THAT BRINGS MANAGERS was read
pub record IsManaged (call : Call) (f : Fault) : Type 0 where
  pub script : Tables
  pub brought : ManagerTables
  pub read : HasRead call.source script brought
  pub refused : IsManagedFault brought f

-- before any call of the disks
pub record IsRefused (call : Call) (second : SeenDisk) (gave : Gave) (f : Fault) : Type 0 where
  pub unrun : IsUnrun call.sink gave f
  pub why : IsUnread call f ⊎ IsManaged call f
  pub same : call.disk.same
  pub same_second : second.same

-- WHAT IT LEAVES. What stops first decides: the source, a script that brings managers, the first image, the script against it, the second image, the run
abbrev pub MirrorLeaves : Managers → Call → SeenDisk → Losing → Gave → ℕ → ℕ → MirrorStatus → Type 0
MirrorLeaves m call second losing gave kept made status =
    MirrorEnds call.disk second call.sink losing gave kept made (λ P. OfPlain call (λ script. InRun m script call.disk P))
    (λ f. IsRefused call second gave f ⊎ OfPlain call (λ script. UnopenedScript script call.sink call.disk second gave f)) status

-- IT CAN BE DONE: as a run can, of a script that brings no managers; and the second image is an empty one
pub record CanMirror (m : Managers) (call : Call) (second : SeenDisk) : Type 0 where
  pub run : CanRun m call
  pub plain : run.brought ≡ none_brought
  pub told : second.tells
  pub empty : IsEmptyImage second.before.reading

-- it was done, or memory ran out at one of the nodes
abbrev pub IsMirrorComplete : MirrorStatus → Type 0
IsMirrorComplete status = (status ≡ Done) ⊎ (status ≡ First Memory) ⊎ (status ≡ Second Memory)
