-- The one run that starts with what the cells of an opened kernel are, and why its kernel has stopped.
use Rattle.std.proofs.Common.{◌≡◌, ◌∙◌, inl, inr, [], ℕ, Some, sym, ap, subst}
use Rattle.edge_disk.specs.declared.disk.Disk.{Ghosts}
use Rattle.edge_disk.specs.Counts.{Rose}
use Rattle.script_types.specs.model_kernel.Scripts.{Script as Tables}
use Rattle.script_types.specs.model_kernel.State.{KernelState, Supply}
use Rattle.command_open.specs.kernel_core_facts.Kernels.{Held, Lives}
use Rattle.command_open.specs.kernel_invariant.Beginnings.{Beginning, state_after}
use Rattle.command_open.specs.kernel_invariant.declared.stopping.Stopped.{Stopped}
use Rattle.command_open.specs.kernel_invariant.declared.stopping.Stopped.TheVariants as reason
use Rattle.command_open.specs.command_promises.Openings.{Managers, run_from}
use Rattle.command_open.specs.command_promises.Playing.{StartsRun}
use Rattle.command_open.specs.command_promises.open_kernel.kernel_laws.Opening.{empty_script, with_script}
use Rattle.command_open.specs.command_promises.open_kernel.kernel_record_facts.Cells.{words_on}
use Rattle.command_open.specs.command_promises.open_kernel.table_laws.Tables.{state_in}
use Rattle.command_open.proofs.command_promises_lemmas.Played.{IsCauseBy}
use Rattle.thread_runs.specs.thread_desk.Desks.{IsCountedFrom}
use Rattle.thread_runs.specs.Ran.{counts_of}
use Rattle.command_workers.specs.Starting.{StartsOne, run_of_cells}

module _ {D : Type 0} (disks : Ghosts D) (k : Held D) where
  -- a run that starts from what the image means is that of the cells
  pub is_single : (m : Managers) (script : Tables) (clock : ℕ) → k.parts.noted.entries ≡ [] → (b : Beginning) → b ≡ run_from m script b.state clock → StartsRun disks m.supply m.policy script k b
      → b ≡ run_of_cells disks m script clock k
  is_single m script clock none b from start =
      let words = words_on (disks.reading k.parts.store.disk) in
      let state : state_in b.supply words k.parts.cells ≡ b.state = start.lives.live.running.follows.state ∙ ap (state_after (with_script b (empty_script b.script.steps))) none in
      let same : state_in m.supply words k.parts.cells ≡ b.state = subst (λ (s : Supply). state_in s words k.parts.cells ≡ b.state) start.same_supply state in
      from ∙ ap (λ (w : KernelState). run_from m script w clock) (sym same)

  -- and so it starts
  pub starts_one : (m : Managers) (script : Tables) (clock : ℕ) → k.parts.noted.entries ≡ [] → (b : Beginning) → b ≡ run_from m script b.state clock → StartsRun disks m.supply m.policy script k b
      → StartsOne disks k (run_of_cells disks m script clock k) b
  starts_one m script clock none b from start =
      let one = is_single m script clock none b from start in
      (one, subst (λ (x : Beginning). Lives disks (with_script x (empty_script x.script.steps)) k) one start.lives)

  -- why it has stopped, by what is counted
  pub cause_counted : (new : Held D) → IsCountedFrom disks (counts_of disks k) new → (why : Stopped) → new.stop ≡ Some why → IsCauseBy (Rose (disks.faults k.parts.store.disk) (disks.faults new.parts.store.disk)) why
  cause_counted new counted (reason.NoBlocks n) is = counted.fewer n is
  cause_counted new counted reason.ReadFault is = counted.rose (inl is)
  cause_counted new counted reason.WriteFault is = counted.rose (inr is)
