-- What the command `check-trace` leaves.
use Rattle.std.specs.Prelude.{◌≡◌, ◌⊎◌, ℕ, ◌++◌, Option, Some, codes, decimal}
use Rattle.std.specs.Io.KnownBytes.{Appends}
use Rattle.image_reading.specs.edge_streams.Streams.{AppendsPart}
use Rattle.base_types.specs.declared.histories.Entry.{Entry}
use Rattle.image_facts.specs.model_kernel.State.{KernelState, Text}
use Rattle.image_facts.specs.model_kernel.Steps.{atlas_in}
use Rattle.image_format.specs.image_meaning.Foreign.{IsForeign}
use Rattle.image_format.specs.image_meaning.Meaning.{Means}
use Rattle.script_drill.specs.script_types.declared.refusals.Refusal.{Refusal}
use Rattle.trace_checker.specs.trace_step_facts.Standing.{Managers}
use Rattle.trace_checker.specs.trace_facts.Traces.{Spells}
use Rattle.command_source.specs.command_outcomes.Ends.{Gains, IsEmpty, IsUnrun}
use Rattle.command_source.specs.command_outcomes.Faults.{line, wrong_line}
use Rattle.command_source.specs.command_outcomes.Seen.{Call, Gave, IsOnlyRead, SeenDisk, SeenSink}
use Rattle.command_source.specs.command_outcomes.Statuses.{Ending, Stopped, Unput, Whole, Wrong}
use Rattle.command_source.specs.command_outcomes.declared.faults.Fault.{Fault}
use Rattle.command_source.specs.command_outcomes.declared.faults.Fault.TheVariants.{Script, Foreign, DiskFault, Source, Memory}
use Rattle.command_promises.specs.TraceBooked.{over}
use Rattle.command_promises.specs.Sources.{MeansTraced, ReadFrom, Traced}
use Rattle.command_promises.specs.Traces.{HasMisfit, IsLegal, IsWrong}
use Rattle.model_serial.specs.model_births.Fitting.{Fits}

-- the line of a trace that is that of a legal history: how many lines it has
abbrev pub ok_line : ℕ → Text
ok_line lines = line (codes "ok " ++ decimal lines)

-- The managers that the script brings answer for their numbers, and the handed-in ones for all others, in what the image means too.
module _ (m : Managers) (from : ReadFrom) (sink : SeenSink) (disk : SeenDisk) (gave : Gave) where
  -- LEGAL: nothing was run, the trace is that of a legal history of the script from the state that the image means, and the number of its
  -- lines was put
  pub record HasAccepted (Puts : Text → Type 0) : Type 0 where
    pub empty : IsEmpty gave
    pub lines : ℕ
    pub legal : from.means (λ t. IsLegal (over t.brought m) t.script disk t.trace lines)
    pub output : Puts (ok_line lines)

  -- WRONG in this line, which wants this entry, or none: nothing was run, and the line of the fault was put
  pub record HasRefused (number : ℕ) (want : Option Entry) : Type 0 where
    pub empty : IsEmpty gave
    pub text : Text
    pub wrong : from.means (λ t. IsWrong (over t.brought m) t.script disk t.trace number want text)
    pub output : Gains sink (wrong_line number text)

  -- refused: the source, before any call of the disk; or its script, which doesn't fit the image
  abbrev pub IsRefused : Refusal → Type 0
  IsRefused refusal = (from.refused refusal × disk.same × from.in_time (Script refusal)) ⊎ from.means (λ t. HasMisfit (over t.brought m) t.script disk refusal)

  -- STOPPED by this fault. What stops first decides: the source, the image, the script against it, the trace.
  abbrev pub StopsTrace : Fault → Type 0
  StopsTrace (Script refusal) = IsUnrun sink gave (Script refusal) × IsRefused refusal
  StopsTrace (Foreign block place) =
      IsUnrun sink gave (Foreign block place) × from.means (λ t. disk.tells → IsForeign disk.before.reading (record { block = block; place = place }))
  StopsTrace DiskFault = IsUnrun sink gave DiskFault × from.means (λ t. disk.rose)
  StopsTrace Source = IsUnrun sink gave Source × from.rose × disk.same × from.in_time Source
  StopsTrace Memory = IsUnrun sink gave Memory × from.in_time Memory
  StopsTrace fault = ⊥

  abbrev pub TraceEnds : Ending → Type 0
  TraceEnds Whole = HasAccepted (Appends sink.before sink.after)
  TraceEnds Unput = HasAccepted (AppendsPart sink.before sink.after) × sink.rose
  TraceEnds (Stopped fault) = StopsTrace fault
  TraceEnds (Wrong number want) = HasRefused number want

  -- WHAT IT LEAVES, by how it ended: the disk was only read
  pub record TraceLeaves (ending : Ending) : Type 0 where
    pub only_read : IsOnlyRead disk
    pub ends : TraceEnds ending

-- IT CAN BE DONE: the source is known, and means a script with its managers and a trace; the image means a state, which the script fits, and
-- from which the trace is that of a legal history
pub record CanCheck (m : Managers) (call : Call) : Type 0 where
  pub told : call.disk.tells
  pub bytes : Text
  pub known : call.source.before ≡ Some bytes
  pub traced : Traced
  pub read : MeansTraced bytes traced
  pub state : KernelState
  pub means : Means (over traced.brought m).word call.disk.before.reading state
  pub fits : Fits (atlas_in (state 0).cell) traced.script
  pub lines : ℕ
  pub legal : Spells (over traced.brought m).word (over traced.brought m).wish state traced.script traced.trace lines
