-- A command was carried out, and what it left that memory didn't run out for.
use Rattle.std.proofs.Common.{◌≡◌, List, [], ◌∷◌, refl, sym, ap, subst, ◌∙◌, inl, inr, arith, true, false, Result, Ok, Err, IfOk}
use Rattle.std.specs.Prelude.{codes}
use Rattle.command_outcomes.specs.Seen.{Call, gave}
use Rattle.command_outcomes.specs.declared.statuses.Outcome.{Outcome}
use Rattle.command_outcomes.specs.declared.statuses.Status.{Status}
use Rattle.command_outcomes.specs.declared.statuses.Status.TheVariants.{Memory}
use Rattle.command_words.specs.Commands.{IsCommand}
use Rattle.command_words.specs.declared.Command.{Command}
use Rattle.command_words.specs.declared.Command.TheVariants.{Format, RunOnThreads}
use Rattle.edge_disk.specs.declared.memory.MemoryDisk.{MemoryDisk}
use Rattle.command_outcomes.specs.model_kernel.State.{Text}
use Rattle.hopper_top.specs.Leaving.{CommandLeaves, HasCause, Leaves}
use Rattle.edge_streams.specs.Memory.{SinkState, SourceState}
use Rattle.hopper_clients.specs.Calls.{IsCalled, IsCount, IsToldOf, managers, new_sink, new_source, seen_by, seen_call, seen_lines, seen_memory, seen_text}
use Rattle.hopper_clients.specs.declared.calling.Called.{Called}

-- what a call saw that these were handed in to, and that left these
abbrev seen_from : SourceState → SourceState → SinkState → SinkState → MemoryDisk → MemoryDisk → Call
seen_from source source_left sink sink_left old new = record { source = seen_text source source_left; sink = seen_lines sink sink_left; disk = seen_memory old new }

-- from a source and a sink that are new
module _ (command : Command) (text : Text) (old : MemoryDisk) (outcome : Outcome MemoryDisk) (source source_left : SourceState) (sink sink_left : SinkState) (from : source ≡ new_source text) (into : sink ≡ new_sink)
    (leaves : Leaves managers command (seen_from source source_left sink sink_left old outcome.disk) (gave outcome)) (causes : HasCause (seen_from source source_left sink sink_left old outcome.disk) outcome.status) where
  at_start : (P : Call → Type 0) → P (seen_from source source_left sink sink_left old outcome.disk) → P (seen_call text source_left sink_left old outcome.disk)
  at_start P h = subst (λ (s : SourceState). P (seen_from s source_left new_sink sink_left old outcome.disk)) from (subst (λ (k : SinkState). P (seen_from source source_left k sink_left old outcome.disk)) into h)

  is_called : (called : Called) → IsToldOf outcome source_left sink_left called → IsCalled command text old called
  is_called called told = record {
    leaves =
        subst (λ (o : Outcome MemoryDisk). Leaves managers command (seen_call text called.source called.sink old o.disk) (gave o)) (sym told.outcome)
        (subst (λ (s : SourceState). Leaves managers command (seen_call text s called.sink old outcome.disk) (gave outcome)) (sym told.source)
        (subst (λ (k : SinkState). Leaves managers command (seen_call text source_left k old outcome.disk) (gave outcome)) (sym told.sink) (at_start (λ call. Leaves managers command call (gave outcome)) leaves)));
    causes =
        subst (λ (o : Outcome MemoryDisk). HasCause (seen_call text called.source called.sink old o.disk) o.status) (sym told.outcome)
        (subst (λ (s : SourceState). HasCause (seen_call text s called.sink old outcome.disk) outcome.status) (sym told.source)
        (subst (λ (k : SinkState). HasCause (seen_call text source_left k old outcome.disk) outcome.status) (sym told.sink) (at_start (λ call. HasCause call outcome.status) causes)));
    put = told.text ∙ ap (λ (k : SinkState). k.held) (sym told.sink);
  }

-- of whatever is handed out
pub called_then : (words : List Text) (text : Text) (old : MemoryDisk) (outcome : Outcome MemoryDisk) (source source_left : SourceState) (sink sink_left : SinkState) → source ≡ new_source text → sink ≡ new_sink
    → ((command : Command) → IsCommand words command → Leaves managers command (seen_from source source_left sink sink_left old outcome.disk) (gave outcome)) → HasCause (seen_from source source_left sink sink_left old outcome.disk) outcome.status
    → {E : Type 0} (r : Result Called E) → IfOk r (IsToldOf outcome source_left sink_left) → IfOk r (λ called. (c : Command) → IsCommand words c → IsCalled c text old called)
called_then words text old outcome source source_left sink sink_left from into leaves causes (Err e) told = tt
called_then words text old outcome source source_left sink sink_left from into leaves causes (Ok called) told =
    λ command is. is_called command text old outcome source source_left sink sink_left from into (leaves command is) causes called told

-- it doesn't tell of memory
abbrev pub HadMemory : Status → Type 0
HadMemory Memory = ⊥
HadMemory status = Unit {0}

pub command_leaves : (command : Command) (text : Text) (old : MemoryDisk) (called : Called) (is : IsCalled command text old called) → HadMemory called.outcome.status
    → CommandLeaves managers command (seen_by text old called) (gave called.outcome)
command_leaves command text old called is had = elim is.leaves [
  | inl untouched ↦ absurd (subst (λ (status : Status). HadMemory status) untouched.status had)
  | inr leaves ↦ leaves
]

-- the words of the command that formats
pub format_words : (words : List Text) → words ≡ codes "format" ∷ codes "4096" ∷ [] → IsCommand words (Format 4096)
format_words words is = (codes "4096", is, ((omega arith, (omega arith, (omega arith, (omega arith, (omega arith, tt))))), omega arith, refl), (omega arith, omega arith))

-- those of runs by so many workers
module _ (words : List Text) (digits : Text) (count : IsCount digits) where
  pub run_words_are : words ≡ codes "run" ∷ codes "--workers" ∷ digits ∷ [] → IsCommand words (RunOnThreads count.0 false)
  run_words_are is = (codes "--workers" ∷ digits ∷ [], is, record { digits = digits; are = inl refl; number = count.1 })

  pub traced_words_are : words ≡ codes "run" ∷ codes "--trace" ∷ codes "--workers" ∷ digits ∷ [] → IsCommand words (RunOnThreads count.0 true)
  traced_words_are is = (codes "--trace" ∷ codes "--workers" ∷ digits ∷ [], is, record { digits = digits; are = inl refl; number = count.1 })

-- one digit of them
pub two_are : IsCount (codes "2")
two_are = (2, (((omega arith, (omega arith, tt)), omega arith, refl), (omega arith, omega arith)))

pub three_are : IsCount (codes "3")
three_are = (3, (((omega arith, (omega arith, tt)), omega arith, refl), (omega arith, omega arith)))
