-- What is counted behind a look, and why the kernel has stopped.
use Rattle.std.proofs.Common.{◌≡◌, ◌⊎◌, inl, inr, ℕ, ◌<◌, Option, Some, None, Ok, Err, refl, ap, subst, ◌∙◌, arith}
use Rattle.std.specs.Prelude.{IsErrOf, Result, ⊤}
use Rattle.std.specs.Result.{result_err}
use Rattle.std.proofs.lemmas.Option.{same_Some}
use Rattle.edge_disk.specs.declared.disk.Disk.{Ghosts}
use Rattle.edge_disk.specs.declared.disk.NoBlocks.{NoBlocks}
use Rattle.edge_disk.proofs.Ticks.{Rose-before}
use Rattle.thread_looks.specs.kernel_core_facts.kernel_commit_facts.Parts.{Parts}
use Rattle.thread_looks.specs.kernel_core_facts.kernel_commits.declared.stopping.Stop.TheVariants as stop
use Rattle.thread_looks.specs.kernel_core_facts.kernel_invariant.declared.stopping.Stopped.{Stopped}
use Rattle.thread_looks.specs.kernel_core_facts.kernel_invariant.declared.stopping.Stopped.TheVariants as reason
use Rattle.thread_looks.specs.kernel_core_facts.table_births.model_kernel.Histories.{Policy}
use Rattle.thread_looks.specs.kernel_core_facts.table_births.model_kernel.State.{Supply}
use Rattle.thread_looks.specs.kernel_core_facts.declared.looked.Looked.{Looked}
use Rattle.thread_looks.specs.kernel_core_facts.Looking.{StopsLook}
use Rattle.thread_looks.specs.Looking.{LooksAsSerial}
use Rattle.thread_desk.specs.Desks.{FirstCounts, IsCountedFrom}
use Rattle.thread_desk.proofs.kernel_run_facts_lemmas.Caused.{cause_kept}

abbrev pub err_look : Stopped → Result Looked Stopped
err_look why = Err why

-- a look that was stopped by a fault of the disk came to it
fault_came : (why : Stopped) → (Some why ≡ Some reason.ReadFault) ⊎ (Some why ≡ Some reason.WriteFault) → IsErrOf (err_look why) reason.ReadFault ⊎ IsErrOf (err_look why) reason.WriteFault
fault_came why (inl is) = inl (ap err_look (same_Some why reason.ReadFault is))
fault_came why (inr is) = inr (ap err_look (same_Some why reason.WriteFault is))

module _ {D : Type 0} (disks : Ghosts D) (counts : FirstCounts) (supply : Supply) (policy : Policy) (me : ℕ) (old new : Parts D) where
  -- where it was stopped for want of blocks fewer were free than were needed
  look_fewer : (n : NoBlocks) → StopsLook disks policy me old new (reason.NoBlocks n) → n.free < n.need
  look_fewer n stops = cause_kept {T = ⊤} disks policy old new (Err (stop.NoBlocks n)) (Some (reason.NoBlocks n)) refl (inr (me, old, stops)) (reason.NoBlocks n) refl

  -- A LOOK of a kernel that went on KEEPS WHAT IS COUNTED, and has its cause where it stops
  module _ (was : IsCountedFrom disks counts (record { parts = old; stop = None })) where
    pub counted_after : (r : Result Looked Stopped) → LooksAsSerial disks supply policy me old new r → IsCountedFrom disks counts (record { parts = new; stop = result_err r })
    counted_after (Ok o) s = record {
      later = let low = was.later in let more = s.counts.later in omega (arith, low, more);
      same_count = s.counts.same_count ∙ was.same_count;
      fewer = λ n is. absurd (cc is);
      rose = λ is. absurd (elim is as (λ _. ⊥) [ inl e ↦ cc e | inr e ↦ cc e ]);
    }
    counted_after (Err why) s = record {
      later = let low = was.later in let more = s.counts.later in omega (arith, low, more);
      same_count = s.counts.same_count ∙ was.same_count;
      fewer = λ n is. look_fewer n (subst (StopsLook disks policy me old new) (same_Some why (reason.NoBlocks n) is) s.stopped.stopped);
      rose = λ is. Rose-before counts.faults (disks.faults old.store.disk) (disks.faults new.store.disk) was.later s.counts.later (s.faults (fault_came why is));
    }
