-- A command on a disk in memory, in the words of the public call.
use Rattle.std.specs.Prelude.{◌≡◌, ℕ, [], Some}
use Rattle.command_words.specs.Commands.{IsNumber, IsWorkers}
use Rattle.command_words.specs.declared.Command.{Command}
use Rattle.edge_disk.specs.MemoryDisk.{memory_disks}
use Rattle.edge_disk.specs.declared.memory.MemoryDisk.{MemoryDisk}
use Rattle.command_outcomes.specs.model_kernel.State.{Text}
use Rattle.hopper_top.specs.Leaving.{HasCause, Leaves, counted_managers}
use Rattle.hopper_top.specs.command_promises.Openings.{Managers}
use Rattle.edge_streams.specs.Memory.{SinkState, SourceState}
use Rattle.command_outcomes.specs.declared.statuses.Outcome.{Outcome}
use Rattle.command_outcomes.specs.Seen.{Call, SeenDisk, SeenSink, SeenSource, gave, seen_disk, seen_sink, seen_source}
use Rattle.hopper_clients.specs.declared.calling.Called.{Called}

-- these digits are a number of workers
abbrev pub IsCount : Text → Type 0
IsCount digits = (workers : ℕ) × (IsNumber digits workers × IsWorkers workers)

-- the answers of the managers that the program has
abbrev pub managers : Managers
managers = counted_managers

-- a source with this text, of which no take was made; an empty sink
abbrev pub new_source : Text → SourceState
new_source text = record { left = text; fails = []; calls = 0; faults = 0 }

abbrev pub new_sink : SinkState
new_sink = record { held = []; room = 65536; fails = []; calls = 0; faults = 0 }

-- sources and sinks in memory before and after
abbrev pub seen_text : SourceState → SourceState → SeenSource
seen_text old new = seen_source (λ (s : SourceState). Some s.left) (λ (s : SourceState). s.faults) old new

abbrev pub seen_lines : SinkState → SinkState → SeenSink
seen_lines old new = seen_sink (λ (s : SinkState). Some s.held) (λ (s : SinkState). s.faults) old new

-- a disk in memory before and after
abbrev pub seen_memory : MemoryDisk → MemoryDisk → SeenDisk
seen_memory old new = seen_disk memory_disks old new

-- a call with this text as its source
abbrev pub seen_call : Text → SourceState → SinkState → MemoryDisk → MemoryDisk → Call
seen_call text source sink old new = record { source = seen_text (new_source text) source; sink = seen_lines new_sink sink; disk = seen_memory old new }

-- what the call saw that this disk was handed in to
abbrev pub seen_by : Text → MemoryDisk → Called → Call
seen_by text old called = seen_call text called.source called.sink old called.outcome.disk

-- what is handed out of a call that left these: the text is what the sink holds
pub record IsToldOf (made : Outcome MemoryDisk) (source_left : SourceState) (sink_left : SinkState) (called : Called) : Type 0 where
  pub outcome : called.outcome ≡ made
  pub source : called.source ≡ source_left
  pub sink : called.sink ≡ sink_left
  pub text : called.text.items ≡ sink_left.held

-- THE COMMAND WAS CARRIED OUT on this disk, with this text as its source: it left what the public call promises, and put its text; a fault of
-- source, sink or disk is told only where its count rose
pub record IsCalled (c : Command) (text : Text) (old : MemoryDisk) (called : Called) : Type 0 where
  pub leaves : Leaves managers c (seen_by text old called) (gave called.outcome)
  pub causes : HasCause (seen_by text old called) called.outcome.status
  pub put : called.text.items ≡ called.sink.held
