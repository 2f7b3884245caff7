-- What a call puts into the sink, and what one leaves that ran nothing.
use Rattle.std.specs.Prelude.{◌≡◌, ◌⊎◌, []}
use Rattle.std.specs.Io.KnownBytes.{Appends}
use Rattle.edge_streams.specs.Streams.{AppendsPart}
use Rattle.script_types.specs.model_kernel.State.{Text}
use Rattle.command_outcomes.specs.Faults.{fault_line}
use Rattle.command_outcomes.specs.Seen.{Gave, SeenSink}
use Rattle.command_outcomes.specs.Statuses.{Ending, Stopped, Unput, Whole, Wrong}
use Rattle.command_outcomes.specs.declared.faults.Fault.{Fault}
use Rattle.command_outcomes.specs.declared.statuses.Status.{Status}
use Rattle.command_outcomes.specs.declared.statuses.Status.TheVariants.{Done, SinkFault}

-- a front of these bytes was appended, and all of them unless the count of faults rose
pub record Gains (sink : SeenSink) (bytes : Text) : Type 0 where
  pub part : AppendsPart sink.before sink.after bytes
  pub whole : (sink.rose → ⊥) → Appends sink.before sink.after bytes

-- nothing was run
pub record IsEmpty (gave : Gave) : Type 0 where
  pub history : gave.history ≡ []
  pub marks : gave.marks ≡ []

-- the bytes were put, all of them, or a front where the sink's count of faults rose; the status says which
abbrev pub IsPut : SeenSink → Text → Status → Type 0
IsPut sink bytes status = ((status ≡ Done) × Appends sink.before sink.after bytes) ⊎ ((status ≡ SinkFault) × AppendsPart sink.before sink.after bytes × sink.rose)

-- NOTHING WAS RUN, and the line of the fault was put
pub record IsUnrun (sink : SeenSink) (gave : Gave) (fault : Fault) : Type 0 where
  pub empty : IsEmpty gave
  pub output : Gains sink (fault_line fault)

-- nothing was run, and no line was put
pub record IsSilent (sink : SeenSink) (gave : Gave) : Type 0 where
  pub empty : IsEmpty gave
  pub output : Appends sink.before sink.after []

-- WHAT A COMMAND LEAVES, by how it ended. Whole, `all` holds, which says what was put: all of it, or, where the sink failed, a front. And
-- else what holds where it was stopped by this fault. No trace was checked.
abbrev pub LeavesBy : SeenSink → ((Text → Type 0) → Type 0) → (Fault → Type 0) → Ending → Type 0
LeavesBy sink all stops Whole = all (Appends sink.before sink.after)
LeavesBy sink all stops Unput = all (AppendsPart sink.before sink.after) × sink.rose
LeavesBy sink all stops (Stopped fault) = stops fault
LeavesBy sink all stops (Wrong line want) = ⊥
