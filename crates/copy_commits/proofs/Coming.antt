-- What comes of the calls, one behind the other.
use Rattle.std.proofs.Common.{◌≡◌, ◌⊎◌, ◌∙◌, inl, inr, sym}
use Rattle.std.specs.Prelude.{OnOk, Result, Ok, Err}
use Rattle.edge_disk.specs.declared.disk.Disk.{Ghosts}
use Rattle.page_store.specs.declared.faults.PageFault.{PageFault}
use Rattle.page_store.specs.declared.faults.PageFault.TheVariants as page
use Rattle.kernel_record_facts.specs.cell_blobs.Blobs.{bytes_of, spelt_in}
use Rattle.kernel_record_facts.specs.Cells.{table_of}
use Rattle.kernel_records.specs.cell_states.declared.cells.Cell.{Cell}
use Rattle.kernel_records.specs.Committing.{HasRecord}
use Rattle.kernel_records.specs.store_facts.Committed.{CommitsInFreeBlocks}
use Rattle.kernel_records.specs.store_facts.State.{State, books}
use Rattle.store_snapshots.specs.declared.faults.StoreFault.{StoreFault}
use Rattle.store_snapshots.specs.declared.faults.StoreFault.TheVariants as fault
use Rattle.copy_commits.specs.Putting.{IsFaultOf}

pub map_ok : {T E A P : Type 0} (r : Result T E) → OnOk r A → (A → P) → OnOk r P
map_ok (Ok x) a f = f a
map_ok (Err e) a f = tt

pub any_ok : {T E P : Type 0} (r : Result T E) → P → OnOk r P
any_ok (Ok x) p = p
any_ok (Err e) p = tt

pub both_ok : {T E A B P : Type 0} (r : Result T E) → OnOk r A → OnOk r B → (A → B → P) → OnOk r P
both_ok (Ok x) a b f = f a b
both_ok (Err e) a b f = tt

-- a record in memory, of a disk that tells its content
pub committed_by : {D : Type 0} (disks : Ghosts D) (c : Cell) (old new : State D) → disks.tells → HasRecord disks c old new
    → CommitsInFreeBlocks c.clock.entity c.clock.version c.clock.stamp.0 (bytes_of (spelt_in c.part)) (table_of c.part) (disks.reading new.disk) (books old) (books new)
committed_by disks c old new t h = record {
  commits = record {
    rec = h.made.rec;
    entity_is = h.made.entity_is;
    version_is = h.made.version_is;
    stamp_is = h.made.stamp_is;
    length_is = h.made.length_is;
    blob_is = h.blob t;
    log = h.made.log;
    same_held = h.made.same_held;
    same_found = h.made.same_found;
    same_count = h.made.same_count;
  };
  free = h.made.free;
  epoch = h.made.epoch;
}

-- the fault of a page that could not be copied
pub fault_is : (p : PageFault) (f e : StoreFault) → IsFaultOf p f → f ≡ e → (e ≡ fault.ReadFault) ⊎ (e ≡ fault.WriteFault)
fault_is (page.NoBlocks b) f e is same = inl (sym same ∙ is)
fault_is page.ReadFault f e is same = inl (sym same ∙ is)
fault_is page.WriteFault f e is same = inr (sym same ∙ is)
fault_is page.Shut f e is same = inl (sym same ∙ is)
