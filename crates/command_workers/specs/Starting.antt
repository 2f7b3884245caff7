-- The run of a kernel that was opened, among those that may start so.
use Rattle.std.specs.Prelude.{◌≡◌, ℕ}
use Rattle.edge_disk.specs.declared.disk.Disk.{Ghosts}
use Rattle.script_types.specs.model_kernel.Scripts.{Script as Tables}
use Rattle.command_open.specs.kernel_core_facts.Kernels.{Held, Lives}
use Rattle.command_open.specs.kernel_invariant.Beginnings.{Beginning}
use Rattle.command_open.specs.command_promises.Openings.{Managers, run_from}
use Rattle.command_open.specs.command_promises.open_kernel.kernel_laws.Opening.{empty_script, with_script}
use Rattle.command_open.specs.command_promises.open_kernel.kernel_record_facts.Cells.{words_on}
use Rattle.command_open.specs.command_promises.open_kernel.table_laws.Tables.{state_in}

module _ {D : Type 0} (disks : Ghosts D) (m : Managers) (script : Tables) (clock : ℕ) (k : Held D) where
  -- the run of the script from the state that the cells are, on a disk whose clock stands so
  abbrev pub run_of_cells : Beginning
  run_of_cells = run_from m script (state_in m.supply (words_on (disks.reading k.parts.store.disk)) k.parts.cells) clock

-- THE RUN IS THIS ONE, and the kernel is live in it as long as nobody is to be born
abbrev pub StartsOne : {D : Type 0} → Ghosts D → Held D → Beginning → Beginning → Type 0
StartsOne disks k one b = (b ≡ one) × Lives disks (with_script one (empty_script one.script.steps)) k
