-- The faults of a commit, handed on, and where a snapshot is made.
use Rattle.std.proofs.Common.{◌≡◌, ◌⊎◌, inl, inr, ℕ, ◌<◌, Bool, true, false, ◌&&◌, ◌||◌, ◌==◌, List, nat_lt, refl, arith}
use Rattle.std.specs.Prelude.{IsErrOf, Result}
use Rattle.std.proofs.lemmas.Bool.Decides.{nat_tests}
use Rattle.edge_disk.specs.declared.disk.NoBlocks.{NoBlocks}
use Rattle.page_store.specs.model_kernel.Histories.{Policy}
use Rattle.page_store.specs.model_kernel.State.{Supply}
use Rattle.cell_wish_laws.specs.cell_states.declared.cells.Cell.{Cell}
use Rattle.cell_wish_laws.specs.cell_states.Cells.{part_of}
use Rattle.cell_wish_laws.specs.cell_states.Wishes.{is_open}
use Rattle.cell_wish_laws.specs.Founded.{IsFoundedCell}
use Rattle.kernel_record_facts.specs.cell_blobs.Blobs.{is_recorded}
use Rattle.kernel_block_laws.specs.store_books.Books.{Books, kept_in}
use Rattle.store_snapshots.specs.store_facts.Shelves.{records_of}
use Rattle.store_snapshots.specs.store_facts.State.{State}
use Rattle.store_snapshots.specs.declared.faults.StoreFault.{StoreFault}
use Rattle.store_snapshots.specs.declared.faults.StoreFault.TheVariants as fault
use Rattle.kernel_records.specs.Committing.{CellFaults}
use Rattle.kernel_records.specs.Snapping.{is_snapped}
use Rattle.std.proofs.lemmas.Bool.{and_from}
use Rattle.page_store.proofs.model_kernel_lemmas.Basics.{and_left, and_right}

-- a call that hands on the faults of another, and makes a record where that does
pub handed_on : {D T U : Type 0} (faults : D → ℕ) (P Q : Type 0) (r : Result T StoreFault) (r' : Result U StoreFault) (c d : Cell) (old new : State D) → (P → Q) → (Q → P) → ((f : StoreFault) → IsErrOf r f → IsErrOf r' f) → ((f : StoreFault) → IsErrOf r' f → IsErrOf r f)
    → CellFaults faults P r c d old new → CellFaults faults Q r' c d old new
handed_on faults P Q r r' c d old new to from on back h = record {
  shut = ((λ is. let both = h.shut.0 (back fault.Shut is) in (to both.0, both.1)), (λ both. on fault.Shut (h.shut.1 (from both.0, both.1))));
  no_blocks = λ b. ((λ is. let both = (h.no_blocks b).0 (back (fault.NoBlocks b) is) in (to both.0, both.1)), (λ both. on (fault.NoBlocks b) ((h.no_blocks b).1 (from both.0, both.1))));
  untouched = λ is. h.untouched (each is);
  write_fault = λ is. let all = h.write_fault (back fault.WriteFault is) in (to all.0, all.1, all.2);
  no_read = λ is. h.no_read (back fault.ReadFault is);
}
  where
    each : IsErrOf r' fault.Shut ⊎ ((b : NoBlocks) × IsErrOf r' (fault.NoBlocks b)) → IsErrOf r fault.Shut ⊎ ((b : NoBlocks) × IsErrOf r (fault.NoBlocks b))
    each (inl is) = inl (back fault.Shut is)
    each (inr is) = inr (is.0, back (fault.NoBlocks is.0) is.1)

-- WHERE A SNAPSHOT IS MADE

noted : (by_step due asked : Bool) → (by_step && due || asked) ≡ true → (by_step || asked) ≡ true
noted true due asked is = refl
noted false due asked is = is

module _ (policy : Policy) (s : Supply) (words : ℕ → List ℕ) (c : Cell) (b : Books) where
  pub snapped : is_open policy (part_of s words c.part) c.clock.version c.wish ≡ true → records_of c.clock.entity (kept_in b) < 4 → is_snapped policy s words c b ≡ true
  snapped is few = and_from (is_open policy (part_of s words c.part) c.clock.version c.wish) (nat_lt (records_of c.clock.entity (kept_in b)) 4) is (has_few (records_of c.clock.entity (kept_in b)) few)
    where
      has_few : (n : ℕ) → n < 4 → nat_lt n 4 ≡ true
      has_few n lt = grind (arith, nat_tests)

  pub is_wished : is_snapped policy s words c b ≡ true → is_open policy (part_of s words c.part) c.clock.version c.wish ≡ true
  is_wished is = and_left (is_open policy (part_of s words c.part) c.clock.version c.wish) (nat_lt (records_of c.clock.entity (kept_in b)) 4) is

  pub is_few : is_snapped policy s words c b ≡ true → records_of c.clock.entity (kept_in b) < 4
  is_few is = few (records_of c.clock.entity (kept_in b)) (and_right (is_open policy (part_of s words c.part) c.clock.version c.wish) (nat_lt (records_of c.clock.entity (kept_in b)) 4) is)
    where
      few : (n : ℕ) → nat_lt n 4 ≡ true → n < 4
      few n lt = grind (arith, nat_tests)

  -- the entity has changed since its newest record
  pub is_changed : IsFoundedCell c → is_open policy (part_of s words c.part) c.clock.version c.wish ≡ true → is_recorded c ≡ false
  is_changed founded is = newer c.wish.newest c.clock.version (founded.changed (noted c.wish.by_step _ c.wish.asked is))
    where
      newer : (n v : ℕ) → n < v → (v == n) ≡ false
      newer n v lt = grind (arith, nat_tests)
