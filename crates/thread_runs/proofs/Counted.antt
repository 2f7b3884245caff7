-- What is counted from a moment on, and why a kernel has stopped since.
use Rattle.std.proofs.Common.{◌≡◌, inl, inr, ◌≤◌, Option, None, Some, refl, sym, subst, ◌∙◌, arith}
use Rattle.std.proofs.Math.Nat.{le_refl}
use Rattle.std.specs.Prelude.{IfSome}
use Rattle.edge_disk.specs.Counts.{Rose}
use Rattle.edge_disk.specs.declared.disk.Disk.{Ghosts}
use Rattle.edge_disk.proofs.Ticks.{Rose-before}
use Rattle.kernel_runs.specs.kernel_commits.Stops.{IsCause}
use Rattle.kernel_runs.specs.kernel_core_facts.Kernels.{Held}
use Rattle.kernel_runs.specs.kernel_core_facts.store_facts.State.{books}
use Rattle.kernel_runs.specs.kernel_invariant.declared.stopping.Stopped.{Stopped}
use Rattle.kernel_runs.specs.kernel_invariant.declared.stopping.Stopped.TheVariants as reason
use Rattle.thread_workers.specs.thread_desk.Desks.{FirstCounts, IsCountedFrom}
use Rattle.thread_runs.specs.Ran.{counts_of}

module _ {D : Type 0} (disks : Ghosts D) where
  -- of a kernel that goes on, from now on
  pub counted_now : (k : Held D) → k.stop ≡ None → IsCountedFrom disks (counts_of disks k) k
  counted_now k going = record {
    later = le_refl (disks.faults k.parts.store.disk);
    same_count = refl;
    fewer = λ n is. absurd (let clash : None ≡ Some (reason.NoBlocks n) = sym going ∙ is in cc clash);
    rose = λ is. absurd (elim is [
      | inl read ↦ (let clash : None ≡ Some reason.ReadFault = sym going ∙ read in cc clash)
      | inr write ↦ (let clash : None ≡ Some reason.WriteFault = sym going ∙ write in cc clash)
    ]);
  }

  -- behind a call that began with this count of faults or a later one, and that has its cause since then
  pub counted_behind : (counts : FirstCounts) (old new : Held D) → counts.faults ≤ disks.faults old.parts.store.disk → (books old.parts.store).count ≡ counts.blocks
      → disks.faults old.parts.store.disk ≤ disks.faults new.parts.store.disk → (books new.parts.store).count ≡ (books old.parts.store).count
      → ((why : Stopped) → new.stop ≡ Some why → IsCause disks.faults old.parts new.parts why) → IsCountedFrom disks counts new
  counted_behind counts old new low blocks later same cause = record {
    later = omega arith;
    same_count = same ∙ blocks;
    fewer = λ n is. cause (reason.NoBlocks n) is;
    rose = λ is.
        Rose-before counts.faults (disks.faults old.parts.store.disk) (disks.faults new.parts.store.disk) low later
        (elim is as (λ _. Rose (disks.faults old.parts.store.disk) (disks.faults new.parts.store.disk)) [ inl read ↦ cause reason.ReadFault read | inr write ↦ cause reason.WriteFault write ]);
  }

  -- over a call
  pub counted_call : (old new : Held D) → disks.faults old.parts.store.disk ≤ disks.faults new.parts.store.disk → (books new.parts.store).count ≡ (books old.parts.store).count
      → ((why : Stopped) → new.stop ≡ Some why → IsCause disks.faults old.parts new.parts why) → IsCountedFrom disks (counts_of disks old) new
  counted_call old new later same cause = counted_behind (counts_of disks old) old new (le_refl (disks.faults old.parts.store.disk)) refl later same cause

  -- from an earlier moment on
  pub counted_before : (old mid k : Held D) → disks.faults old.parts.store.disk ≤ disks.faults mid.parts.store.disk → (books mid.parts.store).count ≡ (books old.parts.store).count
      → IsCountedFrom disks (counts_of disks mid) k → IsCountedFrom disks (counts_of disks old) k
  counted_before old mid k low same counted = record {
    later = omega (arith, counted.later);
    same_count = counted.same_count ∙ same;
    fewer = counted.fewer;
    rose = λ is. Rose-before (disks.faults old.parts.store.disk) (disks.faults mid.parts.store.disk) (disks.faults k.parts.store.disk) low counted.later (counted.rose is);
  }

  -- behind the last rounds, which a kernel that has stopped doesn't make
  pub counted_finished : (counts : FirstCounts) (old new : Held D) (P : Stopped → Type 0) → IsCountedFrom disks counts old → IfSome old.stop (λ why. P why × (new ≡ old))
      → disks.faults old.parts.store.disk ≤ disks.faults new.parts.store.disk → (books new.parts.store).count ≡ (books old.parts.store).count
      → (old.stop ≡ None → (why : Stopped) → new.stop ≡ Some why → IsCause disks.faults old.parts new.parts why) → IsCountedFrom disks counts new
  counted_finished counts old new P counted was later same cause = by old.stop refl was
    where
      by : (o : Option Stopped) → old.stop ≡ o → IfSome o (λ why. P why × (new ≡ old)) → IsCountedFrom disks counts new
      by None going stays = counted_behind counts old new counted.later counted.same_count later same (cause going)
      by (Some why) is stays = subst (IsCountedFrom disks counts) (sym stays.1) counted
