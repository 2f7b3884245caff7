-- The answers of reads, handed on.
use Rattle.std.proofs.Common.{◌≡◌, Err, refl, ap}
use Rattle.std.specs.Prelude.{IsErrOf}
use Rattle.edge_disk.specs.Image.{Image}
use Rattle.edge_disk.specs.declared.disk.Disk.{Ghosts}
use Rattle.node_pages.specs.Reading.{GoesByReads}
use Rattle.node_pages.specs.declared.faults.ShipFault.{ShipFault}
use Rattle.store_snapshots.specs.Paging.{GoesByPages-stay}
use Rattle.store_snapshots.specs.store_facts.State.{State}

-- where nothing is read
pub reads_none : {D : Type 0} (disks : Ghosts D) → ((disk : D) (c : Image) → disks.tells → disks.left_since disk (disks.clock disk) c → disks.may_leave disk c) → (st : State D) → GoesByReads disks st st
reads_none disks only_now st = record {
  pages = GoesByPages-stay disks st (λ c told left. only_now st.disk c told left);
  same_held = refl;
  same_begun = refl;
  same_words = λ t n held. refl;
}

-- of another type of answer
pub err_as : {T U : Type 0} (f e : ShipFault) → IsErrOf {T = T} (Err f) e → IsErrOf {T = U} (Err f) e
err_as f e is = ap Err (let same : f ≡ e = cc is in same)
