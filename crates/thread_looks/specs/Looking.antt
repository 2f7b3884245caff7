-- What a look by lent cells leaves of a kernel's parts.
use Rattle.std.specs.Prelude.{◌≡◌, ◌↔◌, ◌⊎◌, ◌+◌, ◌*◌, ℕ, true, List, [], ◌∷◌, ◌++◌, Option, None, Some, IfOk, IsErrOf, Ok, Err, OnErr, OnOk, Result, IfErr, slice_get}
use Rattle.std.specs.Result.{result_err}
use Rattle.edge_disk.specs.Counts.{Rose}
use Rattle.edge_disk.specs.declared.disk.Disk.{Ghosts}
use Rattle.edge_disk.specs.declared.disk.NoBlocks.{NoBlocks}
use Rattle.base_types.specs.declared.histories.Answer.TheVariants.{Reply as Replied}
use Rattle.base_types.specs.declared.histories.Entry.{Entry}
use Rattle.base_types.specs.declared.histories.Event.TheVariants.{Step}
use Rattle.base_types.specs.declared.instructions.Instr.{Instr}
use Rattle.base_types.specs.declared.instructions.Reply.TheVariants.{Ok as AnsweredOk}
use Rattle.kernel_core_facts.specs.table_births.model_kernel.Histories.{Policy, stabilises}
use Rattle.kernel_core_facts.specs.table_births.model_kernel.State.{Supply}
use Rattle.kernel_core_facts.specs.cell_states.declared.cells.Cell.{Cell}
use Rattle.kernel_core_facts.specs.cell_plans.Plans.{idle_of}
use Rattle.kernel_core_facts.specs.cell_plans.declared.idle.Idle.{Idle}
use Rattle.kernel_core_facts.specs.cell_plans.declared.plans.Plan.{Plan}
use Rattle.kernel_core_facts.specs.cell_plans.declared.plans.Reach.{Reach}
use Rattle.kernel_core_facts.specs.table_laws.Steps.{IsPlannedAt}
use Rattle.kernel_core_facts.specs.table_laws.Tables.{left_of, state_in, AreClean}
use Rattle.kernel_core_facts.specs.kernel_record_facts.Cells.{words_on}
use Rattle.kernel_core_facts.specs.kernel_invariant.Beginnings.{Beginning, run_of}
use Rattle.kernel_core_facts.specs.kernel_invariant.Live.{IsCalm}
use Rattle.kernel_core_facts.specs.model_serial.Serial.{look}
use Rattle.kernel_core_facts.specs.kernel_commit_facts.Lacking.{LacksIn}
use Rattle.kernel_core_facts.specs.kernel_commit_facts.Pieces.{CountsWithin, StopsIn}
use Rattle.kernel_core_facts.specs.kernel_commit_facts.Parts.{Parts, StandsAs}
use Rattle.kernel_core_facts.specs.kernel_commit_facts.Steady.{IsSteady}
use Rattle.kernel_core_facts.specs.kernel_commits.Telling.{TriesAtWrite}
use Rattle.kernel_core_facts.specs.kernel_invariant.declared.stopping.Stopped.{Stopped}
use Rattle.kernel_core_facts.specs.kernel_invariant.declared.stopping.Stopped.TheVariants as reason
use Rattle.kernel_core_facts.specs.Looking.{LooksInRun, LooksOnce, StopsWhere}
use Rattle.kernel_core_facts.specs.Stepping.{idle_at}
use Rattle.kernel_core_facts.specs.declared.looked.Looked.{Looked}
use Rattle.kernel_core_facts.specs.declared.looked.Looked.TheVariants.{Idle as IdleFor, Made}
use Rattle.kernel_core_facts.specs.Looked.{IfMade}
use Rattle.thread_commits.specs.Snapping.{AddsAmong, WritesAmong}

-- THE PLAN of the locus at this place of the table: its next step, or why it makes none
pub record IsPlanAt (cs : List Cell) (me : ℕ) (r : Result Plan Idle) : Type 0 where
  pub idle : (s : Supply) (words : ℕ → List ℕ) → IfErr r (λ why. idle_of (left_of (slice_get cs me)) (state_in s words cs me).cell ≡ Some why)
  pub plans : IfOk r (λ p. IsPlannedAt cs me p.instr p.reach)

-- THE NEXT STEP of the locus is one that owes a Stable where it is answered Ok
pub record WantsStable (cs : List Cell) (me : ℕ) : Type 0 where
  pub instr : Instr
  pub reach : Reach
  pub planned : IsPlannedAt cs me instr reach
  pub stabilises : stabilises (Replied AnsweredOk) instr ≡ true

-- why the kernel has stopped behind what came of a look; it goes on where none was made
abbrev pub stop_in : Option (Result Looked Stopped) → Option Stopped
stop_in None = None
stop_in (Some came) = result_err came

-- what is noted behind a step that came to this: behind one that was made, what writes nobody; nothing else
abbrev pub NotesBehind : Result Looked Stopped → List Entry → List Entry → Type 0
NotesBehind (Ok (Made m)) old new = AddsAmong [] old new
NotesBehind (Ok (IdleFor why)) old new = new ≡ old
NotesBehind (Err why) old new = new ≡ old

-- WHAT A LOOK at the locus NOTES, wherever it stops: nothing, or its step, which writes none but these, and behind it what writes nobody
pub data NotesLook (me : ℕ) (xs : List ℕ) (old new : List Entry) : Type 0 where
  Nothing : new ≡ old → NotesLook me xs old new
  StepFirst : (e : Entry) → e.event ≡ Step → e.actor ≡ me → WritesAmong e xs → AddsAmong [] (old ++ e ∷ []) new → NotesLook me xs old new

module _ {D : Type 0} (disks : Ghosts D) where
  -- ONE LOOK at the locus, as the serial kernel makes it: its step, and behind it the Snaps of what it wrote whose wishes are open
  pub record LooksAsSerial (supply : Supply) (policy : Policy) (me : ℕ) (old new : Parts D) (result : Result Looked Stopped) : Type 0 where
    pub idle : (s : Supply) (words : ℕ → List ℕ) (why : Idle) → (idle_at s words me old.cells ≡ Some why) ↔ (result ≡ Ok (IdleFor why))
    pub still : (why : Idle) → result ≡ Ok (IdleFor why) → new ≡ old
    pub steady : OnOk result (IsSteady disks new)
    pub made : IfOk result (λ o. IfMade o (λ m. LooksOnce disks me old new m.entry))
    pub stopped : StopsWhere disks policy me old new (result_err result)
    pub tries : TriesAtWrite result old.noted.entries new.noted.entries
    pub run : disks.tells → (b : Beginning) → b.supply ≡ supply → b.policy ≡ policy → StandsAs disks b old → IsCalm b old.noted.entries
        → LooksInRun disks b policy me result old new
    pub part : disks.tells → (b : Beginning) → b.supply ≡ supply → b.policy ≡ policy → StandsAs disks b old → IsCalm b old.noted.entries
        → OnErr result (StopsIn b (look b.supply b.policy b.script (run_of b old.noted.entries) me) old.noted.entries new.noted.entries)
    pub enough : disks.tells → (b : Beginning) → b.supply ≡ supply → b.policy ≡ policy → StandsAs disks b old → IsCalm b old.noted.entries
        → (n : NoBlocks) → IsErrOf result (reason.NoBlocks n) → LacksIn disks b n (look b.supply b.policy b.script (run_of b old.noted.entries) me) old.noted.entries new
    pub faults : IsErrOf result reason.ReadFault ⊎ IsErrOf result reason.WriteFault → Rose (disks.faults old.store.disk) (disks.faults new.store.disk)
    pub clean : disks.tells → OnOk result (AreClean supply (words_on (disks.reading new.store.disk)) new.cells)
    pub counts : CountsWithin disks (1 + 64 * 1556) old.store new.store
