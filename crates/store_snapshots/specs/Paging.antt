-- What lies between two moments of a store, from one of which to the other only pages were read and written.
use Rattle.std.specs.Prelude.{◌≤◌}
use Rattle.std.proofs.Common.{arith}
use Rattle.edge_disk.specs.declared.disk.Disk.{Ghosts}
use Rattle.edge_disk.specs.Image.{Image}
use Rattle.store_facts.specs.store_books.Between.{Between-join, Between-stay, OnlyPages}
use Rattle.store_facts.specs.State.{State, books}

module _ {D : Type 0} (disks : Ghosts D) where
  -- NOTHING WAS COMMITTED, and the disk's count of faults didn't fall
  pub record GoesByPages (old new : State D) : Type 0 where
    pub only : OnlyPages disks old.disk new.disk (books old) (books new) (books old).begun (books new).begun
    pub later : disks.faults old.disk ≤ disks.faults new.disk

  pub GoesByPages-stay : (st : State D) → ((c : Image) → disks.tells → disks.left_since st.disk (disks.clock st.disk) c → disks.may_leave st.disk c) → GoesByPages st st
  GoesByPages-stay st only_now = record {
    only = Between-stay disks st.disk (books st) (books st).begun only_now;
    later = omega arith;
  }

  pub GoesByPages-join : (a b c : State D) → GoesByPages a b → GoesByPages b c → GoesByPages a c
  GoesByPages-join a b c p q = record {
    only = Between-join disks a.disk b.disk c.disk (books a) (books b) (books c) (books a).begun (books b).begun (books c).begun p.only q.only;
    later = (let one = p.later in let two = q.later in omega (arith, one, two));
  }
