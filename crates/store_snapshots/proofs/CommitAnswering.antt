-- The answers of a commit, at each of its ends.
use Rattle.std.proofs.Common.{◌≡◌, ◌≤◌, ℕ, true, false, inl, inr, refl, sym, ap, subst, ◌∙◌, arith}
use Rattle.std.specs.Prelude.{Err, IsErrOf, OnErr, Result}
use Rattle.std.proofs.lemmas.Bool.{false≢true}
use Rattle.edge_disk.specs.Counts.{Rose}
use Rattle.edge_disk.specs.declared.disk.NoBlocks.{NoBlocks}
use Rattle.store_facts.specs.image_facts.Bodies.{blocks_for}
use Rattle.store_facts.specs.store_books.Books.{free_in}
use Rattle.store_snapshots.specs.CommitAnswers.{CommitAnswers, IsShort}
use Rattle.store_facts.specs.Committed.{HasFailedShut}
use Rattle.store_facts.specs.State.{State, books}
use Rattle.store_snapshots.specs.declared.faults.StoreFault.{StoreFault}
use Rattle.store_snapshots.specs.declared.faults.StoreFault.TheVariants as fault

abbrev refused : StoreFault → Result (Unit {0}) StoreFault
refused fault = Err fault

fault_is : (x y : StoreFault) → IsErrOf (refused x) y → x ≡ y
fault_is x y is = let e : refused x ≡ refused y = is in cc e

shut_not_short : (b : NoBlocks) → fault.Shut ≡ fault.NoBlocks b → ⊥
shut_not_short b e = cc e

shut_not_write : fault.Shut ≡ fault.WriteFault → ⊥
shut_not_write e = cc e

shut_not_read : fault.Shut ≡ fault.ReadFault → ⊥
shut_not_read e = cc e

short_not_write : (b : NoBlocks) → fault.NoBlocks b ≡ fault.WriteFault → ⊥
short_not_write b e = cc e

short_not_read : (b : NoBlocks) → fault.NoBlocks b ≡ fault.ReadFault → ⊥
short_not_read b e = cc e

read_not_write : fault.ReadFault ≡ fault.WriteFault → ⊥
read_not_write e = cc e

same_numbers : (x y : NoBlocks) → fault.NoBlocks x ≡ fault.NoBlocks y → x ≡ y
same_numbers x y e = cc e

module _ {D : Type 0} (faults : D → ℕ) (length : ℕ) (st : State D) where
  pub shut_answers : st.shut ≡ true → CommitAnswers faults length (refused fault.Shut) st st
  shut_answers shut = record {
    shut = ((λ _. refl), (λ _. shut));
    no_blocks = λ b. ((λ is. absurd (shut_not_short b (fault_is fault.Shut (fault.NoBlocks b) is))), (λ short. absurd (false≢true (sym short.working ∙ shut))));
    untouched = λ _. refl;
    write_fault = λ is. absurd (shut_not_write (fault_is fault.Shut fault.WriteFault is));
    no_read = λ is. shut_not_read (fault_is fault.Shut fault.ReadFault is);
  }

  pub short_answers : (x : NoBlocks) → IsShort (books st) length x → CommitAnswers faults length (refused (fault.NoBlocks x)) st st
  short_answers x short = record {
    shut = ((λ shut. absurd (false≢true (sym short.working ∙ shut))), (λ is. absurd (shut_not_short x (sym (fault_is (fault.NoBlocks x) fault.Shut is)))));
    no_blocks = λ b. (
      (λ is. subst (IsShort (books st) length) (same_numbers x b (fault_is (fault.NoBlocks x) (fault.NoBlocks b) is)) short),
      (λ other. ap (λ n. refused (fault.NoBlocks n)) (short.numbers ∙ sym other.numbers)),
    );
    untouched = λ _. refl;
    write_fault = λ is. absurd (short_not_write x (fault_is (fault.NoBlocks x) fault.WriteFault is));
    no_read = λ is. short_not_read x (fault_is (fault.NoBlocks x) fault.ReadFault is);
  }

  pub made_answers : (result : Result (Unit {0}) StoreFault) (new : State D) → st.shut ≡ false → blocks_for length ≤ free_in (books st) → ((e : StoreFault) → IsErrOf result e → e ≡ fault.WriteFault)
      → OnErr result (Rose (faults st.disk) (faults new.disk) × HasFailedShut (books st) (books new)) → CommitAnswers faults length result st new
  made_answers result new working room only failed = record {
    shut = ((λ shut. absurd (false≢true (sym working ∙ shut))), (λ is. absurd (shut_not_write (only fault.Shut is))));
    no_blocks = λ b. ((λ is. absurd (short_not_write b (only (fault.NoBlocks b) is))), (λ short. absurd (let less = short.fewer in omega (arith, less, room))));
    untouched = λ either. elim either as (λ _. new ≡ st) [
      | inl is ↦ absurd (shut_not_write (only fault.Shut is))
      | inr is ↦ absurd (short_not_write is.0 (only (fault.NoBlocks is.0) is.1))
    ];
    write_fault = λ is. subst (λ (r : Result (Unit {0}) StoreFault). OnErr r (Rose (faults st.disk) (faults new.disk) × HasFailedShut (books st) (books new))) is failed;
    no_read = λ is. read_not_write (only fault.ReadFault is);
  }
