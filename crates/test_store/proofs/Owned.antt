-- What holds of a store between calls goes on.
use Rattle.std.proofs.Common.{◌≡◌, ℕ, zero, suc, replicate, ◌+◌, ◌⊎◌, inl, inr, false, List, [], ◌∷◌, length, refl, sym, subst, ◌∙◌, arith}
use Rattle.std.specs.Prelude.{Err, IsErrOf, slice_index}
use Rattle.std.proofs.lemmas.Bool.{false≢true}
use Rattle.edge_disk.specs.declared.disk.Disk.{Ghosts}
use Rattle.edge_disk.specs.declared.disk.NoBlocks.{NoBlocks}
use Rattle.store_snapshots.specs.store_books.Books.{AreTrue}
use Rattle.store_snapshots.specs.store_facts.Committed.{HasFailedShut, HasNewRecord}
use Rattle.store_snapshots.specs.store_facts.State.{State, books}
use Rattle.store_snapshots.specs.declared.faults.StoreFault.{StoreFault}
use Rattle.store_snapshots.specs.declared.faults.StoreFault.TheVariants as fault
use Rattle.test_store.specs.Own.{IsOwn}

pub none_of : {A : Type 0} (xs : List A) → length xs ≡ 0 → xs ≡ []
none_of [] len = refl
none_of (x ∷ xs) len = absurd (omega (arith, len))

pub none_named : (n k : ℕ) → slice_index (replicate n 0) k ≡ 0
none_named zero k = refl
none_named (suc n) zero = refl
none_named (suc n) (suc k) = none_named n k

module _ {D : Type 0} (disks : Ghosts D) (st new : State D) (n : ℕ) (own : IsOwn disks st n) where
  own_later : IsOwn disks st (n + 1)
  own_later = record { read = own.read; epoch = λ working. (let low = own.epoch working in omega (arith, low)); true_books = own.true_books }

  -- a record more
  pub own_more : {entity version len : ℕ} {stamp table : List ℕ} → HasNewRecord entity version len stamp table (books st) (books new) → (books st).shut ≡ false → (disks.tells → AreTrue disks (books new) new.disk) → IsOwn disks new (n + 1)
  own_more made working right = record {
    read = made.same_found ∙ own.read;
    epoch = λ _. (let low = own.epoch working in let rise = made.epoch.1 in omega (arith, low, rise));
    true_books = right;
  }

  -- after a failure
  own_shut : HasFailedShut (books st) (books new) → IsOwn disks new (n + 1)
  own_shut f = record {
    read = f.same_found ∙ own.read;
    epoch = λ working. absurd (false≢true (sym working ∙ f.shut));
    true_books = λ _. record {
      log = λ working. absurd (false≢true (sym working ∙ f.shut));
      left = λ working. absurd (false≢true (sym working ∙ f.shut));
      stored = λ _ working. absurd (false≢true (sym working ∙ f.shut));
    };
  }

  pub own_failed : (Q : Type 0) (why : StoreFault) → (IsErrOf {T = Unit {0}} {E = StoreFault} (Err why) fault.Shut ⊎ ((b : NoBlocks) × IsErrOf {T = Unit {0}} {E = StoreFault} (Err why) (fault.NoBlocks b)) → new ≡ st)
      → (IsErrOf {T = Unit {0}} {E = StoreFault} (Err why) fault.WriteFault → Q × HasFailedShut (books st) (books new)) → (IsErrOf {T = Unit {0}} {E = StoreFault} (Err why) fault.ReadFault → ⊥) → IsOwn disks new (n + 1)
  own_failed Q fault.Shut same write read = subst (λ (s : State D). IsOwn disks s (n + 1)) (sym (same (inl refl))) own_later
  own_failed Q (fault.NoBlocks b) same write read = subst (λ (s : State D). IsOwn disks s (n + 1)) (sym (same (inr (b, refl)))) own_later
  own_failed Q fault.WriteFault same write read = own_shut (write refl).1
  own_failed Q fault.ReadFault same write read = absurd (read refl)
