-- WHAT IS SAID of a script that ran with its trace, and of the trace.
use Rattle.std.specs.Prelude.{◌≡◌, ◌<◌, ◌⊎◌, ◌++◌, ◌∷◌, ℕ, [], length, take, true, None, codes}
use Rattle.edge_disk.specs.Counts.{Rose}
use Rattle.edge_disk.specs.MemoryDisk.{faults_of}
use Rattle.edge_disk.specs.declared.memory.MemoryDisk.{MemoryDisk}
use Rattle.command_words.specs.declared.Command.TheVariants.{CheckTrace}
use Rattle.hopper_clients.specs.Calls.{IsCalled, managers}
use Rattle.hopper_clients.specs.Images.{HasNewImage}
use Rattle.hopper_top.specs.command_promises.Booked.{over}
use Rattle.hopper_top.specs.command_promises.Openings.{run_from}
use Rattle.command_outcomes.specs.Statuses.{Ending, Stopped, Unput, Whole, Wrong, ending}
use Rattle.command_outcomes.specs.declared.faults.Fault.TheVariants.{NoBlocks, DiskFault, Foreign, Memory, Script, Source, Usage}
use Rattle.command_outcomes.specs.declared.statuses.Status.{Status}
use Rattle.command_outcomes.specs.declared.statuses.Status.TheVariants.{Done}
use Rattle.hopper_top.specs.line_entries.Entries.{trace_of}
use Rattle.command_outcomes.specs.model_kernel.Scripts.{Script as Tables}
use Rattle.command_outcomes.specs.model_kernel.State.{Text, empty_state}
use Rattle.hopper_top.specs.kernel_invariant.Beginnings.{Beginning, IsLegal}
use Rattle.hopper_top.specs.command_promises.Manners.{Manner, Telling, told}
use Rattle.hopper_top.specs.command_source.Sources.{IsAccepted}
use Rattle.hopper_top.specs.command_promises.TraceLeaving.{ok_line}
use Rattle.hopper_top.specs.command_promises.SourceParts.{rule_from}
use Rattle.hopper_top.specs.command_promises.Sources.{most_bytes as most}
use Rattle.base_managers.specs.Managing.{ManagerTables}
use Rattle.hopper_clients.specs.declared.calling.Called.{Called}
use Rattle.hopper_clients.specs.declared.tracing.Checked.{Checked}

-- THE RUN

-- the run of a script from the state in which nothing is born, by the managers that it brings over the program's, begun at this moment of a clock
abbrev pub run_from_nothing : Tables → ManagerTables → ℕ → Beginning
run_from_nothing script brought clock = run_from (over brought managers) script empty_state clock

-- THE SCRIPT WAS RUN: the source stands for it, the history is a whole one of this manner, serial or on threads, from nothing, and its trace was put
pub record IsTraced (way : Telling → Manner) (source : Text) (c : Checked) : Type 0 where
  pub script : Tables
  pub brought : ManagerTables
  pub clock : ℕ
  pub accepted : IsAccepted source script brought
  pub legal : IsLegal (run_from_nothing script brought clock) c.history.items
  pub whole : (way trace_of).whole (run_from_nothing script brought clock) c.history.items
  pub trace : c.trace.items ≡ told trace_of (run_from_nothing script brought clock) c.history.items

-- THE SOURCE OF THE CHECK

-- a trace can stand behind the script: its last line has its line feed, and none of its lines is `---`
pub record IsTraceable (script : Text) : Type 0 where
  pub ends : (script ≡ []) ⊎ ((front : Text) × (script ≡ front ++ 10 ∷ []))
  pub no_rule : rule_from true script 0 ≡ None

-- the script, a line `---`, and the trace
abbrev pub traced_source : Text → Text → Text
traced_source script trace = script ++ codes "---" ++ 10 ∷ trace

-- bytes of it at most
abbrev pub most_bytes : ℕ
most_bytes = most

-- THE TRACE IS ACCEPTED, by how its check ended on this disk: whole, with `ok` and the number of entries; or with a fault of sink, source
-- or disk, whose count rose, or for want of memory. It is never found wrong, nor the source refused, nor the image foreign.
abbrev pub AcceptsBy : MemoryDisk → Checked → Ending → Type 0
AcceptsBy before c Whole = c.verdict.items ≡ ok_line (length c.history.items)
AcceptsBy before c Unput = ((count : ℕ) × (c.verdict.items ≡ take count (ok_line (length c.history.items)))) × (0 < c.sink.faults)
AcceptsBy before c (Stopped Source) = 0 < c.source.faults
AcceptsBy before c (Stopped DiskFault) = Rose (faults_of before) (faults_of c.disk)
AcceptsBy before c (Stopped Memory) = Unit {0}
AcceptsBy before c (Stopped (Script refusal)) = ⊥
AcceptsBy before c (Stopped (Foreign block place)) = ⊥
AcceptsBy before c (Stopped (NoBlocks n)) = ⊥
AcceptsBy before c (Stopped Usage) = ⊥
AcceptsBy before c (Wrong line want) = ⊥

-- on a disk with a new image
pub record AcceptsOwn (c : Checked) : Type 0 where
  pub before : MemoryDisk
  pub fresh : HasNewImage before
  pub accepts : AcceptsBy before c (ending c.checked)

-- THE CHECK, behind a run that put a trace, on a second disk
abbrev pub checked_from : Status → Called → Called → Called → Checked
checked_from formatted ran again checked = record {
  formatted = formatted;
  ran = ran.outcome.status;
  formatted_again = again.outcome.status;
  checked = checked.outcome.status;
  history = ran.outcome.history;
  trace = ran.text;
  verdict = checked.text;
  source = checked.source;
  sink = checked.sink;
  disk = checked.outcome.disk;
}

pub record IsCheckOf (source : Text) (formatted : Status) (ran : Called) (c : Checked) : Type 0 where
  pub again : Called
  pub checked : Called
  pub is : c ≡ checked_from formatted ran again checked
  pub fresh : again.outcome.status ≡ Done → HasNewImage again.outcome.disk
  pub checks : IsCalled CheckTrace (traced_source source ran.text.items) again.outcome.disk checked
