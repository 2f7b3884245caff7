-- How calls end, and what their last puts leave.
use Rattle.std.proofs.Common.{◌≡◌, inl, inr, Result, Ok, Err, OnErr, refl, sym, ap, subst, ◌∙◌}
use Rattle.std.specs.Io.KnownBytes.{Appends}
use Rattle.edge_streams.specs.Streams.{AppendsPart, Puts}
use Rattle.edge_streams.proofs.Streams.{AppendsPart-whole}
use Rattle.script_types.specs.model_kernel.State.{Text}
use Rattle.command_outcomes.specs.Ends.{Gains, IsPut, LeavesBy}
use Rattle.command_outcomes.specs.Seen.{SeenSink}
use Rattle.command_outcomes.specs.Statuses.{Ending, IsComplete, Stopped, Unput, Whole, ending, status_by}
use Rattle.command_outcomes.specs.declared.faults.Fault.{Fault}
use Rattle.command_outcomes.specs.declared.faults.Fault.TheVariants.{Usage, Script, Foreign, DiskFault, Source, Memory, NoBlocks}
use Rattle.command_outcomes.specs.declared.statuses.Status.{Status}
use Rattle.command_outcomes.specs.declared.statuses.Status.TheVariants.{Done, SinkFault}

-- what a put leaves
pub gains : {T E : Type 0} (sink : SeenSink) (result : Result T E) (bytes : Text) → Puts sink.before sink.after result bytes → OnErr result sink.rose → Gains sink bytes
gains sink (Ok x) bytes puts cause = record { part = AppendsPart-whole sink.before sink.after bytes puts; whole = λ calm. puts }
gains sink (Err e) bytes puts cause = record { part = puts; whole = λ calm. absurd (calm cause) }

-- the status of a fault says that it stopped the call
pub ending-status_by : (f : Fault) → ending (status_by f) ≡ Stopped f
ending-status_by Usage = refl
ending-status_by (Script refusal) = refl
ending-status_by (Foreign block place) = refl
ending-status_by DiskFault = refl
ending-status_by Source = refl
ending-status_by Memory = refl
ending-status_by (NoBlocks n) = refl

module _ (P : Ending → Type 0) (status : Status) where
  pub by_fault : (f : Fault) → status ≡ status_by f → P (Stopped f) → P (ending status)
  by_fault f is h = subst P (sym (ap ending is ∙ ending-status_by f)) h

  pub by_done : status ≡ Done → P Whole → P (ending status)
  by_done is h = subst P (sym (ap ending is)) h

  pub by_sink : status ≡ SinkFault → P Unput → P (ending status)
  by_sink is h = subst P (sym (ap ending is)) h

-- WHAT A COMMAND LEAVES: once its bytes were put, whole or in part, and once a fault stopped it
module _ (sink : SeenSink) (all : (Text → Type 0) → Type 0) (stops : Fault → Type 0) (status : Status) where
  pub put_ends : (bytes : Text) → IsPut sink bytes status → ((Puts : Text → Type 0) → Puts bytes → all Puts) → LeavesBy sink all stops (ending status)
  put_ends bytes (inl (is, put)) turn = by_done (LeavesBy sink all stops) status is (turn (Appends sink.before sink.after) put)
  put_ends bytes (inr (is, part, rose)) turn = by_sink (LeavesBy sink all stops) status is (turn (AppendsPart sink.before sink.after) part, rose)

  pub fault_ends : (f : Fault) → status ≡ status_by f → stops f → LeavesBy sink all stops (ending status)
  fault_ends f is h = by_fault (LeavesBy sink all stops) status f is h

-- bytes that were put are all put, unless the sink failed
pub put_complete : (sink : SeenSink) (bytes : Text) (status : Status) → IsPut sink bytes status → (sink.rose → ⊥) → IsComplete status
put_complete sink bytes status (inl (is, put)) calm = inl is
put_complete sink bytes status (inr (is, part, rose)) calm = absurd (calm rose)
