-- What a record of a cell whose pages are written asks of the store, what it leaves, and how it may fail.
use Rattle.std.proofs.Common.{◌≡◌, ◌≢◌, ◌⊎◌, inl, inr, ℕ, ◌≤◌, ◌&&◌, Bool, true, false, List, [], ◌∷◌, ◌++◌, length, refl, sym, ap, subst, ◌∙◌, arith}
use Rattle.std.specs.Prelude.{IsErrOf, OnOk, Result, Ok, Err, slice_index}
use Rattle.std.proofs.lemmas.Bool.{false≢true}
use Rattle.std.proofs.lemmas.List.{same_from_push}
use Rattle.edge_disk.specs.declared.disk.Disk.{Ghosts}
use Rattle.edge_disk.specs.Counts.{Rose}
use Rattle.base_types.specs.declared.records.Rec.{Rec}
use Rattle.kernel_block_laws.specs.image_facts.Bodies.{blob_in, blocks_for}
use Rattle.cell_wish_laws.specs.cell_states.declared.cells.Cell.{Cell}
use Rattle.cell_wish_laws.specs.cell_states.declared.cells.Part.{Part}
use Rattle.cell_wish_laws.specs.cell_states.declared.cells.Part.TheVariants as part
use Rattle.kernel_record_facts.specs.cell_blobs.Blobs.{bytes_of, spelt_in}
use Rattle.kernel_record_facts.specs.Cells.{IsSoundIn, table_of}
use Rattle.kernel_record_facts.proofs.Telling.{no_blocks}
use Rattle.store_snapshots.specs.CommitAnswers.{CommitAnswers}
use Rattle.store_snapshots.specs.store_facts.Committed.{CommitsInFreeBlocks, HasFailedShut, HasNewRecord}
use Rattle.store_snapshots.specs.store_facts.Putting.{are_small}
use Rattle.store_snapshots.specs.store_facts.State.{State, books}
use Rattle.store_snapshots.specs.declared.faults.StoreFault.{StoreFault}
use Rattle.store_snapshots.specs.declared.faults.StoreFault.TheVariants as fault
use Rattle.kernel_block_laws.specs.store_books.Books.{Logged, free_in, kept_in}
use Rattle.kernel_records.specs.Committing.{HasRecord}

-- the blocks of a part's table are held
pub held_pages : (held : ℕ → Bool) (q : Part) → IsSoundIn held q → (page : ℕ) → slice_index (table_of q) page ≢ 0 → held (slice_index (table_of q) page) ≡ true
held_pages held (part.Atlas a) sound page some = absurd (some (no_blocks page))
held_pages held (part.Container b) sound page some = sound.held_blocks page some
held_pages held (part.Locus l) sound page some = absurd (some (no_blocks page))

-- where the store works and has room only a write fails
pub only_write : {D : Type 0} (faults : D → ℕ) (length : ℕ) (r : Result (Unit {0}) StoreFault) (old new : State D) → CommitAnswers faults length r old new → (books old).shut ≡ false → blocks_for length ≤ free_in (books old)
    → (e : StoreFault) → IsErrOf r e → (e ≡ fault.WriteFault) × Rose (faults old.disk) (faults new.disk) × HasFailedShut (books old) (books new)
only_write faults length r old new answers working room (fault.NoBlocks b) h = absurd (let less = ((answers.no_blocks b).0 h).fewer in omega (arith, less, room))
only_write faults length r old new answers working room fault.ReadFault h = absurd (answers.no_read h)
only_write faults length r old new answers working room fault.WriteFault h = let both = answers.write_fault h in (refl, both.0, both.1)
only_write faults length r old new answers working room fault.Shut h = absurd (false≢true (sym working ∙ answers.shut.1 h))

-- THE NEW RECORD is the same for the disk and in memory: the last of the log
last_is : (a b now : List Logged) (k l : Logged) → now ≡ a ++ k ∷ [] → now ≡ b ++ l ∷ [] → k ≡ l
last_is a b now k l one two = (same_from_push a b k l (sym one ∙ two)).1

last_of : (a b now : List Logged) (k l : Logged) → (now ≡ a ++ k ∷ []) ⊎ (now ≡ b ++ k ∷ []) → (now ≡ a ++ l ∷ []) ⊎ (now ≡ b ++ l ∷ []) → k ≡ l
last_of a b now k l (inl one) (inl two) = last_is a a now k l one two
last_of a b now k l (inl one) (inr two) = last_is a b now k l one two
last_of a b now k l (inr one) (inl two) = last_is b a now k l one two
last_of a b now k l (inr one) (inr two) = last_is b b now k l one two

module _ {D : Type 0} (disks : Ghosts D) (c : Cell) (old new : State D) where
  has_record : (made : HasNewRecord c.clock.entity c.clock.version (length (bytes_of (spelt_in c.part))) c.clock.stamp.0 (table_of c.part) (books old) (books new))
      → (disks.tells → CommitsInFreeBlocks c.clock.entity c.clock.version c.clock.stamp.0 (bytes_of (spelt_in c.part)) (table_of c.part) (disks.reading new.disk) (books old) (books new))
      → (books new).small ≡ ((books old).small && are_small c.clock.version c.clock.stamp.0) → HasRecord disks c old new
  has_record made committed small = record {
    made = made;
    blob = λ t.
        let k = (committed t).commits in
        let same : k.rec ≡ made.rec = ap (λ (l : Logged). l.rec) (last_of (books old).logged (kept_in (books old)) (books new).logged (record { rec = k.rec; table = table_of c.part }) (record { rec = made.rec; table = table_of c.part }) k.log made.log) in
        subst (λ (r : Rec). blob_in (disks.reading new.disk) r ≡ bytes_of (spelt_in c.part)) same k.blob_is;
    small = small;
  }

  -- with the blob and the table as they were handed over
  pub record_made : (r : Result (Unit {0}) StoreFault) (blob table : List ℕ) → blob ≡ bytes_of (spelt_in c.part) → table ≡ table_of c.part
      → OnOk r (HasNewRecord c.clock.entity c.clock.version (length blob) c.clock.stamp.0 table (books old) (books new))
      → (disks.tells → OnOk r (CommitsInFreeBlocks c.clock.entity c.clock.version c.clock.stamp.0 blob table (disks.reading new.disk) (books old) (books new)))
      → OnOk r ((books new).small ≡ ((books old).small && are_small c.clock.version c.clock.stamp.0)) → OnOk r (HasRecord disks c old new)
  record_made (Err e) blob table is_blob is_table made committed small = tt
  record_made (Ok x) blob table is_blob is_table made committed small = has_record
      (subst (λ (t : List ℕ). HasNewRecord c.clock.entity c.clock.version (length (bytes_of (spelt_in c.part))) c.clock.stamp.0 t (books old) (books new)) is_table
      (subst (λ (b : List ℕ). HasNewRecord c.clock.entity c.clock.version (length b) c.clock.stamp.0 table (books old) (books new)) is_blob made))
      (λ t. subst (λ (u : List ℕ). CommitsInFreeBlocks c.clock.entity c.clock.version c.clock.stamp.0 (bytes_of (spelt_in c.part)) u (disks.reading new.disk) (books old) (books new)) is_table
      (subst (λ (b : List ℕ). CommitsInFreeBlocks c.clock.entity c.clock.version c.clock.stamp.0 b table (disks.reading new.disk) (books old) (books new)) is_blob (committed t)))
      small
