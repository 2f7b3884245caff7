-- What a call leaves, by its command and by how it ended.
use Rattle.std.specs.Prelude.{◌≡◌, ◌⊎◌, ◌≤◌, ℕ, Bool, false, true, List, bytes_eq, codes}
use Rattle.std.specs.List.{list_any}
use Rattle.edge_disk.specs.declared.disk.NoBlocks.{NoBlocks}
use Rattle.edge_managers.specs.Managers.{counted_word, is_due}
use Rattle.command_words.specs.Commands.{IsCommand, IsCopyOf}
use Rattle.command_words.specs.declared.Command.{Command}
use Rattle.command_words.specs.declared.Command.TheVariants.{CheckTrace, Copy, Drill, Format, Report, Run, RunOnThreads, Show}
use Rattle.command_run.specs.model_kernel.State.{Text}
use Rattle.command_format.specs.image_meaning.Meaning.{Accepted}
use Rattle.command_outcomes.specs.Ends.{IsUnrun}
use Rattle.command_outcomes.specs.Seen.{Call, Gave}
use Rattle.command_outcomes.specs.Statuses.{IsComplete, ending, status_by}
use Rattle.command_outcomes.specs.declared.faults.Fault.{Fault}
use Rattle.command_outcomes.specs.declared.faults.Fault.TheVariants.{Memory as NoMemory, Usage as BadWords}
use Rattle.command_outcomes.specs.declared.statuses.Status.{Status}
use Rattle.command_outcomes.specs.declared.statuses.Status.TheVariants.{BlocksFull, DiskFault, SinkFault, SourceFault}
use Rattle.command_copy.specs.Copies.{CanCopy, CopyLeaves}
use Rattle.command_format.specs.Formats.{FormatLeaves}
use Rattle.command_show.specs.Reports.{ReportLeaves}
use Rattle.command_show.specs.Shows.{ShowLeaves}
use Rattle.command_check_trace.specs.command_promises.Drilling.{CanDrill, DrillLeaves}
use Rattle.command_check_trace.specs.command_promises.Leaving.{CanRun, RunLeaves}
use Rattle.command_check_trace.specs.command_promises.Manners.{on_threads, serial}
use Rattle.command_check_trace.specs.command_promises.Openings.{Managers}
use Rattle.command_run.specs.Tellings.{lines_of}
use Rattle.command_run.specs.declared.putting.Lines.{Lines}
use Rattle.command_run.specs.declared.putting.Lines.TheVariants.{Entries, Printed}
use Rattle.command_check_trace.specs.command_promises.TraceLeaving.{CanCheck, TraceLeaves}
use Rattle.command_check_trace.specs.command_promises.Sources.{from_source}
use Rattle.command_check_trace.specs.trace_step_facts.Standing.{Managers as Answers}

-- STOPPED BEFORE ANY COMMAND by this fault: nothing was run, and neither source nor disk was touched
pub record IsUntouched (call : Call) (gave : Gave) (fault : Fault) : Type 0 where
  pub status : gave.status ≡ status_by fault
  pub unrun : IsUnrun call.sink gave fault
  pub source : call.source.same
  pub disk : call.disk.same

-- which lines a run is asked for
abbrev pub asked_lines : Bool → Lines
asked_lines false = Printed
asked_lines true = Entries

-- the answers of the managers that the program has: words that count up from the tag, and a wish every so many versions
abbrev pub counted_managers : Managers
counted_managers = record { supply = counted_word; policy = is_due }

-- the managers' answers, as a checker of traces asks for them
abbrev pub answers_of : Managers → Answers
answers_of m = record { word = m.supply; wish = m.policy }

-- WHAT A COMMAND LEAVES. What a copy leaves of the image hangs on the two names, which the words have and the command hasn't: `CopiesOrStays` says it.
abbrev pub CommandLeaves : Managers → Command → Call → Gave → Type 0
CommandLeaves m (Format blocks) call gave = call.source.same × FormatLeaves blocks call.disk call.sink gave (ending gave.status)
CommandLeaves m Show call gave = call.source.same × ShowLeaves m.supply call.disk call.sink gave (ending gave.status)
CommandLeaves m Report call gave = call.source.same × ReportLeaves call.disk call.sink gave (ending gave.status)
CommandLeaves m (Run trace) call gave = RunLeaves (serial (lines_of (asked_lines trace))) m call gave (ending gave.status)
CommandLeaves m (RunOnThreads workers trace) call gave = RunLeaves (on_threads (lines_of (asked_lines trace))) m call gave (ending gave.status)
CommandLeaves m (Drill number) call gave = call.source.same × DrillLeaves m number call.sink call.disk gave (ending gave.status)
CommandLeaves m CheckTrace call gave = TraceLeaves (answers_of m) (from_source call.source) call.sink call.disk gave (ending gave.status)
CommandLeaves m Copy call gave = call.source.same

-- WHAT A CALL LEAVES whose words are this command: what the command leaves, or memory ran out for the words
abbrev pub Leaves : Managers → Command → Call → Gave → Type 0
Leaves m command call gave = IsUntouched call gave NoMemory ⊎ CommandLeaves m command call gave

-- WHAT A COPY LEAVES by these two names, or memory ran out for the words
abbrev pub CopiesOrStays : Text → Text → Call → Gave → Type 0
CopiesOrStays name fresh call gave = IsUntouched call gave NoMemory ⊎ CopyLeaves name fresh call.disk call.sink gave (ending gave.status)

-- the same of a command that was carried out: only a copy leaves one
abbrev pub CopiesBy : List Text → Command → Call → Gave → Type 0
CopiesBy words (Format blocks) call gave = Unit {0}
CopiesBy words Show call gave = Unit {0}
CopiesBy words Report call gave = Unit {0}
CopiesBy words (Run trace) call gave = Unit {0}
CopiesBy words (RunOnThreads workers trace) call gave = Unit {0}
CopiesBy words (Drill number) call gave = Unit {0}
CopiesBy words CheckTrace call gave = Unit {0}
CopiesBy words Copy call gave = (name fresh : Text) → IsCopyOf words name fresh → CopyLeaves name fresh call.disk call.sink gave (ending gave.status)

-- the word is `--workers`
abbrev pub workers_word : Text → Bool
workers_word word = bytes_eq word (codes "--workers")

-- some word is
abbrev pub names_workers : List Text → Bool
names_workers words = list_any workers_word words

-- a command that is no run on threads
abbrev pub IsSerial : Command → Type 0
IsSerial command = (workers : ℕ) (trace : Bool) → command ≡ RunOnThreads workers trace → ⊥

-- WORDS of no known form
abbrev pub IsNoCommand : List Text → Type 0
IsNoCommand words = (command : Command) → IsCommand words command → ⊥

abbrev pub UsageLeaves : Call → Gave → Type 0
UsageLeaves call gave = IsUntouched call gave NoMemory ⊎ IsUntouched call gave BadWords

-- WHEN A STATUS COMES that tells of a count: only where it rose
abbrev pub HasCause : Call → Status → Type 0
HasCause call DiskFault = call.disk.rose
HasCause call SourceFault = call.source.rose
HasCause call SinkFault = call.sink.rose
HasCause call status = Unit {0}

-- the command can be done; of a copy `CanCopy` says it, by the two names
abbrev pub CanDo : Managers → Command → Call → Type 0
CanDo m (Format blocks) call = blocks ≤ call.disk.before.blocks
CanDo m Show call = call.disk.tells × Accepted call.disk.before.reading
CanDo m Report call = call.disk.tells × Accepted call.disk.before.reading
CanDo m (Run trace) call = CanRun m call
CanDo m (RunOnThreads workers trace) call = CanRun m call
CanDo m (Drill number) call = CanDrill m number call.disk
CanDo m CheckTrace call = CanCheck (answers_of m) call
CanDo m Copy call = ⊥

-- A COPY THAT CAN BE DONE is done, unless a call of the disk or of the sink fails, or blocks are too few
abbrev pub CompletesCopy : Text → Text → Call → Status → Type 0
CompletesCopy name fresh call status = CanCopy name fresh call.disk → (call.disk.rose → ⊥) → (call.sink.rose → ⊥) → ((n : NoBlocks) → status ≡ BlocksFull n → ⊥) → IsComplete status

-- the same of a command that was carried out
abbrev pub CompletesBy : List Text → Command → Call → Status → Type 0
CompletesBy words (Format blocks) call status = Unit {0}
CompletesBy words Show call status = Unit {0}
CompletesBy words Report call status = Unit {0}
CompletesBy words (Run trace) call status = Unit {0}
CompletesBy words (RunOnThreads workers trace) call status = Unit {0}
CompletesBy words (Drill number) call status = Unit {0}
CompletesBy words CheckTrace call status = Unit {0}
CompletesBy words Copy call status = (name fresh : Text) → IsCopyOf words name fresh → CompletesCopy name fresh call status
