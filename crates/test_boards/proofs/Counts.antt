-- Why a kernel has stopped, if it has, and what is counted of it since before the last fault.
use Rattle.std.proofs.Common.{◌≡◌, ◌∙◌, inl, inr, ℕ, zero, suc, ◌≤◌, ◌<◌, None, Some, Ok, Err, refl, sym, arith}
use Rattle.std.specs.Prelude.{IfErr, IsErrOf, Result, ⊤}
use Rattle.edge_disk.specs.Counts.{Rose}
use Rattle.edge_disk.specs.declared.disk.Disk.{Ghosts}
use Rattle.edge_managers.specs.Managers.{is_due}
use Rattle.script_types.specs.model_kernel.Scripts.{Script}
use Rattle.kernel_core.specs.kernel_commits.Telling.{FailsByWrite, Tells}
use Rattle.kernel_core.specs.kernel_commits.declared.stopping.Stop.{Stop}
use Rattle.kernel_core.specs.kernel_commits.declared.stopping.Stop.TheVariants as stop
use Rattle.kernel_core.specs.kernel_core_facts.Bearing.{IsShortBehind}
use Rattle.kernel_core.specs.kernel_core_facts.Kernels.{Held}
use Rattle.kernel_core.specs.kernel_invariant.declared.stopping.Stopped.TheVariants as reason
use Rattle.kernel_run_facts.proofs.Caused.{births_cause, cause_kept}
use Rattle.thread_workers.specs.thread_desk.Desks.{IsCountedFrom}
use Rattle.test_boards.specs.Caused.{HasCause, counts_before}

-- a count that rose isn't 0
rose_from : (before now : ℕ) → before ≤ now → Rose before now → 0 < now
rose_from before zero later rose = absurd (let fewer : before < 0 = rose (omega (arith, later)) in omega (arith, fewer))
rose_from before (suc now) later rose = omega arith

-- a kernel that goes on needs no cause
pub goes_uncaused : {D : Type 0} (faults : D → ℕ) (k : Held D) → k.stop ≡ None → HasCause k faults
goes_uncaused faults k going = record {
  fewer = λ n is. absurd (let clash : None ≡ Some (reason.NoBlocks n) = sym going ∙ is in cc clash);
  faulty = λ is. absurd (elim is as (λ _. ⊥) [
    | inl read ↦ (let clash : None ≡ Some reason.ReadFault = sym going ∙ read in cc clash)
    | inr write ↦ (let clash : None ≡ Some reason.WriteFault = sym going ∙ write in cc clash)
  ]);
}

module _ {D : Type 0} (disks : Ghosts D) where
  -- births stop a kernel for a cause
  pub caused_by_births : (script : Script) (old new : Held D) (r : Result ⊤ Stop) → Tells r new.stop → IsShortBehind script (λ n. IsErrOf r (stop.NoBlocks n)) old.parts new.parts
      → IfErr r (FailsByWrite (Rose (disks.faults old.parts.store.disk) (disks.faults new.parts.store.disk)))
      → disks.faults old.parts.store.disk ≤ disks.faults new.parts.store.disk → HasCause new disks.faults
  caused_by_births script old new (Ok y) tells short fails later = goes_uncaused disks.faults new tells
  caused_by_births script old new (Err s) tells short fails later =
      let cause = cause_kept {T = ⊤} disks is_due old.parts new.parts (Err s) new.stop tells (births_cause disks is_due script old.parts new.parts s short fails) in
      record {
        fewer = λ n is. cause (reason.NoBlocks n) is;
        faulty = λ is.
            rose_from (disks.faults old.parts.store.disk) (disks.faults new.parts.store.disk) later
            (elim is as (λ _. Rose (disks.faults old.parts.store.disk) (disks.faults new.parts.store.disk)) [ inl read ↦ cause reason.ReadFault read | inr write ↦ cause reason.WriteFault write ]);
      }

  -- so all is as it was counted before the last fault
  pub counted_by_cause : (k : Held D) → HasCause k disks.faults → IsCountedFrom disks (counts_before k disks.faults) k
  counted_by_cause k cause = record {
    later = omega arith;
    same_count = refl;
    fewer = cause.fewer;
    rose = λ is low. (let some = cause.faulty is in omega (arith, some));
  }
