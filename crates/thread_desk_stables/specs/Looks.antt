-- What came of a look before the Stable that its step owes.
use Rattle.std.specs.Prelude.{◌≡◌, ℕ, Bool, true, false, if◌then◌else◌, Option, None, Some, Ok, Err, Result}
use Rattle.edge_disk.specs.declared.disk.Disk.{Ghosts}
use Rattle.thread_stables.specs.kernel_core_facts.table_births.model_kernel.Histories.{Policy}
use Rattle.thread_stables.specs.kernel_core_facts.table_births.model_kernel.State.{Supply}
use Rattle.thread_stables.specs.kernel_core_facts.kernel_commit_facts.Parts.{Parts}
use Rattle.thread_stables.specs.kernel_core_facts.kernel_invariant.declared.stopping.Stopped.{Stopped}
use Rattle.thread_stables.specs.kernel_core_facts.table_steps.declared.stepping.Made.{Made as Step}
use Rattle.thread_stables.specs.kernel_core_facts.Looked.{StepsOnce}
use Rattle.thread_stables.specs.kernel_core_facts.Stepping.{is_owing}
use Rattle.thread_stables.specs.kernel_core_facts.declared.looked.Looked.{Looked}
use Rattle.thread_stables.specs.kernel_core_facts.declared.looked.Looked.TheVariants.{Idle, Made}
use Rattle.thread_stables.specs.thread_looks.Looking.{LooksAsSerial}

-- whether its step owes a Stable
abbrev pub owes_by : Result Looked Stopped → Bool
owes_by (Ok (Made m)) = is_owing m.instr m.entry.answer
owes_by (Ok (Idle why)) = false
owes_by (Err why) = false

-- the step that does
abbrev pub owing_by : Option (Result Looked Stopped) → Option Step
owing_by (Some (Ok (Made m))) = if is_owing m.instr m.entry.answer then Some m else None
owing_by (Some (Ok (Idle why))) = None
owing_by (Some (Err why)) = None
owing_by None = None

-- THE LOOK BUT FOR ITS STABLE: the step where it owes one, and else the whole look as the serial kernel makes it
pub record LooksOrOwes {D : Type 0} (disks : Ghosts D) (supply : Supply) (policy : Policy) (me : ℕ) (old new : Parts D) (came : Result Looked Stopped) : Type 0 where
  pub owing : owes_by came ≡ true → StepsOnce disks supply me old new came
  pub looks : owes_by came ≡ false → LooksAsSerial disks supply policy me old new came
