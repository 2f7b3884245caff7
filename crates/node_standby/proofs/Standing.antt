-- What is true of every standby stays true.
use Rattle.std.proofs.Common.{◌≡◌, ◌⊎◌, inl, inr, ℕ, ◌≤◌, true, false, arith, [], sym, ap, subst, ◌∙◌}
use Rattle.std.specs.Prelude.{IsErrOf, Result}
use Rattle.std.proofs.lemmas.Bool.{false≢true}
use Rattle.edge_disk.proofs.Ticks.{Rose-before}
use Rattle.edge_disk.specs.Counts.{Rose}
use Rattle.edge_disk.specs.declared.disk.Disk.{Ghosts}
use Rattle.edge_disk.specs.declared.disk.NoBlocks.{NoBlocks}
use Rattle.node_standby.specs.Standing.{IsStandby, KeepsCount, Standing}
use Rattle.kernel_views.specs.store_snapshots.declared.faults.StoreFault.{StoreFault}
use Rattle.kernel_views.specs.store_snapshots.declared.faults.StoreFault.TheVariants as fault
use Rattle.kernel_views.specs.store_snapshots.store_books.Books.{AreTrue, recs_in}
use Rattle.kernel_views.specs.store_snapshots.store_facts.Opening.{IsFresh, IsOver, is_some_rec}
use Rattle.kernel_views.specs.store_snapshots.store_facts.State.{State, books}
use Rattle.kernel_views.specs.store_snapshots.store_facts.image_facts.Layout.{last_number}
use Rattle.kernel_views.specs.store_snapshots.store_facts.log_reading.declared.log.ImageLog.{ImageLog}

module _ {D : Type 0} (disks : Ghosts D) where
  -- of a store that is shut nothing is said
  pub standby_shut : (new : State D) (count : ℕ) → (books new).shut ≡ true → IsStandby disks (record { store = new; count = count })
  standby_shut new count shut = record {
    read = λ works. absurd (no works);
    none_held = λ works. absurd (no works);
    epoch = λ works. absurd (no works);
    true_books = λ t. record { log = λ works. absurd (no works); left = λ works. absurd (no works); stored = λ small works. absurd (no works) };
  }
    where
      no : (books new).shut ≡ false → ⊥
      no works = false≢true (sym works ∙ shut)

  pub standby_fresh : (st : State D) (log : ImageLog) → IsOver log st → IsFresh st → log.recs.items ≡ [] → log.epoch ≤ last_number
      → (disks.tells → recs_in (books st) ≡ [] → AreTrue disks (books st) st.disk) → IsStandby disks (record { store = st; count = 0 })
  standby_fresh st log is fresh none low right = record {
    read = λ _. fresh.found ∙ ap is_some_rec (is.recs ∙ none);
    none_held = λ _. fresh.none_held;
    epoch = λ _. (let same = ap (λ (p : Rattle.kernel_views.specs.store_snapshots.store_facts.image_blocks.Logs.Place). p.epoch) is.place in omega (arith, same, low));
    true_books = λ t. right t (is.recs ∙ none);
  }

-- a delivery that fails changes nothing, or shuts the store
pub ends : {D T : Type 0} (old new : State D) (r : Result T StoreFault) (e : StoreFault) → IsErrOf r e → (IsErrOf r fault.Shut ⊎ ((n : NoBlocks) × IsErrOf r (fault.NoBlocks n)) → new ≡ old)
    → (IsErrOf r fault.WriteFault → (books new).shut ≡ true) → (IsErrOf r fault.ReadFault → ⊥) → (new ≡ old) ⊎ ((books new).shut ≡ true)
ends old new r (fault.NoBlocks n) is untouched write read = inl (untouched (inr (n, is)))
ends old new r fault.ReadFault is untouched write read = absurd (read is)
ends old new r fault.WriteFault is untouched write read = inr (write is)
ends old new r fault.Shut is untouched write read = inl (untouched (inl is))

pub standby_failed : {D : Type 0} (disks : Ghosts D) (old : Standing D) (new : State D) → IsStandby disks old → (new ≡ old.store) ⊎ ((books new).shut ≡ true) → IsStandby disks (record { store = new; count = old.count })
standby_failed {D = D} disks old new s ends = elim ends as (λ _. IsStandby disks (record { store = new; count = old.count })) [
  | inl same ↦ subst (λ (d : State D). IsStandby disks (record { store = d; count = old.count })) (sym same) s
  | inr shut ↦ standby_shut disks new old.count shut
]

-- THE COUNT OF FAULTS
pub rose_after : (before mid now : ℕ) → mid ≤ now → Rose before mid → Rose before now
rose_after before mid now le rose = λ short. (let less = rose short in omega (arith, less, le))

module _ {D : Type 0} (disks : Ghosts D) where
  pub counts_stay : (st : Standing D) → KeepsCount disks st st
  counts_stay st = record { later = omega arith; shut = λ shut. inl shut }

  pub counts_then : (a b c : Standing D) → KeepsCount disks a b → KeepsCount disks b c → KeepsCount disks a c
  counts_then a b c p q = record {
    later = (let one = p.later in let two = q.later in omega (arith, one, two));
    shut = λ shut. elim (q.shut shut) as (λ _. ((books a.store).shut ≡ true) ⊎ Rose (disks.faults a.store.disk) (disks.faults c.store.disk)) [
      | inl before ↦ elim (p.shut before) as (λ _. ((books a.store).shut ≡ true) ⊎ Rose (disks.faults a.store.disk) (disks.faults c.store.disk)) [
        | inl was ↦ inl was
        | inr rose ↦ inr (rose_after (disks.faults a.store.disk) (disks.faults b.store.disk) (disks.faults c.store.disk) q.later rose)
      ]
      | inr rose ↦ inr (Rose-before (disks.faults a.store.disk) (disks.faults b.store.disk) (disks.faults c.store.disk) p.later q.later rose)
    ];
  }
