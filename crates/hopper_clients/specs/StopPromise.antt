-- WHAT IS KEPT of a script that ran on a new image until the machine stopped.
use Rattle.std.specs.Prelude.{◌≡◌, ◌⊎◌, ◌≤◌, ◌+◌, ℕ, [], min}
use Rattle.edge_disk.specs.Image.{Image}
use Rattle.edge_disk.specs.Kept.{IsTorn, MayLeave}
use Rattle.edge_disk.specs.MemoryDisk.{moments_of, reading_of, stood_at}
use Rattle.edge_disk.specs.declared.calls.Torn.{Torn}
use Rattle.edge_disk.specs.declared.memory.MemoryDisk.{MemoryDisk}
use Rattle.command_outcomes.specs.model_kernel.Output.{output_of}
use Rattle.command_outcomes.specs.model_kernel.Scripts.{Script as Tables}
use Rattle.command_outcomes.specs.model_kernel.State.{KernelState, Text, empty_state}
use Rattle.hopper_top.specs.image_meaning.Meaning.{Means}
use Rattle.hopper_top.specs.kernel_invariant.Beginnings.{Beginning, IsLegal}
use Rattle.hopper_top.specs.kernel_invariant.Left.{IsCutImage}
use Rattle.base_managers.specs.Managing.{ManagerTables}
use Rattle.edge_managers.specs.Managers.{counted_word}
use Rattle.hopper_top.specs.plain_show.Show.{shown}
use Rattle.hopper_top.specs.command_promises.Booked.{over}
use Rattle.hopper_top.specs.command_promises.Openings.{Managers, run_from}
use Rattle.hopper_top.specs.command_promises.Manners.{Manner, Telling}
use Rattle.hopper_top.specs.command_promises.Runs.{printed}
use Rattle.hopper_top.specs.command_source.Sources.{IsAccepted}
use Rattle.command_outcomes.specs.Statuses.{Ending, Stopped, Unput, Whole, Wrong, ending}
use Rattle.command_outcomes.specs.declared.faults.Fault.TheVariants.{NoBlocks, DiskFault, Foreign as BadImage, Memory, Script, Source, Usage}
use Rattle.command_outcomes.specs.declared.statuses.Status.{Status}
use Rattle.command_outcomes.specs.declared.statuses.Status.TheVariants.{Done, Foreign}
use Rattle.command_words.specs.declared.Command.TheVariants.{Show}
use Rattle.hopper_clients.specs.Calls.{IsCalled, managers}
use Rattle.hopper_clients.specs.declared.calling.Called.{Called}
use Rattle.hopper_clients.specs.declared.stopping.Shown.{Shown}

-- THE STATE WAS SHOWN: where `show` came to its end, its text is that of this state; and it found no bad place
pub record IsShownAs (s : Shown) (w : KernelState) : Type 0 where
  pub text : s.shown ≡ Done → s.text.items ≡ shown counted_word (λ x. (w x).cell)
  pub accepted : (block place : ℕ) → s.shown ≡ Foreign block place → ⊥

-- the managers of a run: those that the script brings, over the program's
abbrev pub answering : ManagerTables → Managers
answering brought = over brought managers

-- the run of a script from the state in which nothing is born, with marks and moments counted on the clock of the disk
abbrev pub run_from_nothing : Tables → ManagerTables → Shown → Beginning
run_from_nothing script brought s = run_from (answering brought) script empty_state s.since

-- A CUT OF THE RUN IS LEFT: the source stands for a script, the history is a legal run of it from nothing, and the image that the stop
-- left means the state that the first k commits make, where k holds all that was acknowledged by then. What the image means by the
-- program's managers was shown: where the script brings none, that state.
pub record KeepsCut (source : Text) (torn : Torn) (s : Shown) : Type 0 where
  pub script : Tables
  pub brought : ManagerTables
  pub accepted : IsAccepted source script brought
  pub legal : IsLegal (run_from_nothing script brought s) s.history.items
  pub image : Image
  pub left : IsTorn torn (stood_at s.disk s.stopped) image
  pub cut : IsCutImage (run_from_nothing script brought s) s.history.items s.marks.items (moments_of s.disk) s.stopped image
  pub shows : (w : KernelState) → Means counted_word image w → IsShownAs s w

-- and the run came to its end: its history is a whole one of this manner, and its lines are put
pub record KeepsWhole (way : Telling → Manner) (source : Text) (torn : Torn) (s : Shown) : Type 0 where
  pub keeps : KeepsCut source torn s
  pub whole : (way output_of).whole (run_from_nothing keeps.script keeps.brought s) s.history.items
  pub lines : s.lines.items ≡ printed (run_from_nothing keeps.script keeps.brought s) s.history.items

-- NOTHING WAS RUN: the image that the stop left means the state in which nothing is born, which was shown
pub record KeepsNothing (torn : Torn) (s : Shown) : Type 0 where
  pub empty : s.history.items ≡ []
  pub image : Image
  pub left : IsTorn torn (stood_at s.disk s.stopped) image
  pub means : Means counted_word image empty_state
  pub shows : IsShownAs s empty_state

-- by the run's manner, serial or on threads, and by how it ended. Memory runs out in its midst only on threads
abbrev pub KeepsBy : (Telling → Manner) → Text → Torn → Shown → Ending → Type 0
KeepsBy way source torn s Whole = KeepsWhole way source torn s
KeepsBy way source torn s Unput = KeepsCut source torn s
KeepsBy way source torn s (Stopped (NoBlocks n)) = KeepsCut source torn s
KeepsBy way source torn s (Stopped DiskFault) = KeepsCut source torn s ⊎ KeepsNothing torn s
KeepsBy way source torn s (Stopped (Script refusal)) = KeepsNothing torn s
KeepsBy way source torn s (Stopped Source) = KeepsNothing torn s
KeepsBy way source torn s (Stopped Memory) = KeepsNothing torn s ⊎ ((way output_of).may_lack × KeepsCut source torn s)
KeepsBy way source torn s (Stopped (BadImage block place)) = ⊥
KeepsBy way source torn s (Stopped Usage) = ⊥
KeepsBy way source torn s (Wrong line want) = ⊥

-- THE PROMISE
abbrev pub KeepsPromise : (Telling → Manner) → Text → Torn → Shown → Type 0
KeepsPromise way source torn s = KeepsBy way source torn s (ending s.ran)

-- THE STOP, behind a run that began at this moment of the clock, and what was shown of the disk that it left
abbrev pub shown_from : Status → Called → Called → ℕ → ℕ → Shown
shown_from formatted ran showed since stopped = record {
  formatted = formatted;
  ran = ran.outcome.status;
  shown = showed.outcome.status;
  history = ran.outcome.history;
  marks = ran.outcome.marks;
  lines = ran.text;
  disk = ran.outcome.disk;
  since = since;
  stopped = stopped;
  text = showed.text;
}

pub record IsStopOf (formatted : Status) (since : ℕ) (ran : Called) (after : ℕ) (torn : Torn) (s : Shown) : Type 0 where
  pub stopped : ℕ
  pub showed : Called
  pub image : MemoryDisk
  pub is : s ≡ shown_from formatted ran showed since stopped
  pub stops : stopped ≡ min (since + after) (moments_of ran.outcome.disk)
  pub tears : IsTorn torn (stood_at ran.outcome.disk stopped) (reading_of image)
  pub may : MayLeave (stood_at ran.outcome.disk stopped) (reading_of image)
  pub shows : IsCalled Show [] image showed
