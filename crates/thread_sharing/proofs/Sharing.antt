-- That a board's locks may be shared among threads. A cell is found to be one that may go to another thread once that of its locked part is at hand;
-- all other parts' are theirs already.
use Rattle.std.proofs.Crossing.{crosses}
use base.Fml.{Lft}
use denote.Param.Send.{IsSend, IsSync, plain_sync, sendable, shr_sync}
use denote.Param.SendFields.{as_row_sync, declared_sync}
use denote.Builtin.{unit}
use denote.Plain.{UInt}
use denote.Ref.{ShrRef}
use denote.Struct.Field.{row_field}
use denote.Struct.Tuple.{TupleAt, type_at}
use mir.Syntax.{named, w8}
use Rattle.std.specs.Prelude.{◌∷◌, [], List}
use Rattle.std.specs.contracts.sync.Mutex.{the_row as mutex}
use denote.RattleType.{RattleType}
use Rattle.base_types.specs.declared.histories.Entry.{Entry}
use Rattle.cell_states.specs.declared.cells.Cell.{Cell}
use Rattle.cell_states.proofs.cells.Cell.TheSendSync.{the_sync as cell_sync}
use Rattle.cell_states.specs.contracts.cells.Cell.{the_row as cell}
use Rattle.edge_disk.specs.declared.disk.Disk.{Ghosts as Disks}
use Rattle.edge_managers.specs.declared.Policy.{Ghosts as Policies}
use Rattle.edge_managers.specs.declared.Supplier.{Ghosts as Suppliers}
use Rattle.std.specs.declared.sync.ledger.Ledger.{Ghosts as Ledgers}
use Rattle.thread_board.specs.declared.slates.Bench.{Ghosts as Benches}
use Rattle.thread_board.proofs.slates.Slate.TheSendSync.{the_sync as slate_sync}
use Rattle.thread_cells.proofs.cells.LockedCell.TheSendSync.{the_send as locked_send}
use Rattle.thread_desk.proofs.tills.Till.TheSendSync.{the_send as till_send}
use Rattle.thread_desk.specs.contracts.sights.SightedCell.{the_row as sighted}
use Rattle.thread_desk.specs.declared.names.Board.{Ghosts as Boards}
use Rattle.thread_history.specs.declared.shares.Run.{Ghosts as Runs}
use Rattle.thread_items.proofs.desks.ItemDesk.TheSendSync.{the_send as desk_send}
use Rattle.thread_locks.specs.contracts.locks.Locks.{the_row as locks}
use Rattle.thread_ties.specs.declared.views.Bond.{Ghosts as Bonds}

pub sighted_send : (D B : RattleType) (d : Disks D.Denot) (board : Boards B.Denot D.Denot) (bond : Bonds B.Denot Cell) (run : Runs B.Denot Entry) → IsSend (sighted D B d board bond run)
sighted_send D B d board bond run = search (sendable, crosses, locked_send) depth 100 fits 200000

cell_shared : Unit {0} → IsSync cell
cell_shared u = cell_sync

module _ (D S P B : RattleType) (d : Disks D.Denot) (s : Suppliers S.Denot) (p : Policies P.Denot) (board : Boards B.Denot D.Denot) (bond : Bonds B.Denot Cell)
    (run : Runs B.Denot Entry) (bench : Benches B.Denot) (ledger : Ledgers B.Denot) where
  pub locks_sync : IsSend D → IsSync S → IsSync P → IsSend S → IsSend P → IsSend B → IsSync B → IsSync (locks D S P B d s p board bond run bench ledger)
  locks_sync disk_send supply_sync policy_sync supply_send policy_send name_send name_sync = search (sendable, crosses, sighted_send, till_send, desk_send, slate_sync, cell_shared) depth 200 fits 2000000

pub byte_sync : IsSync (UInt w8)
byte_sync = search plain_sync

-- whose turn it is
pub turn_sync : IsSync (mutex unit)
turn_sync = search (sendable, crosses) depth 20

-- a closure that borrows four values, whatever its name and those of the lifetimes
module _ (a b c d : RattleType) (κ κ' κ'' κ₃ : Lft) where
  abbrev borrowed : List RattleType
  borrowed = ShrRef (named 0) κ a ∷ ShrRef (named 0) κ' b ∷ ShrRef (named 0) κ'' c ∷ ShrRef (named 0) κ₃ d ∷ []

  pub closure_sync : IsSync a → IsSync b → IsSync c → IsSync d → IsSync (TupleAt [] borrowed)
  closure_sync first second third last =
      declared_sync (type_at [] borrowed) (as_row_sync (row_field (ShrRef (named 0) κ a)) (shr_sync (named 0) κ a first), (as_row_sync (row_field (ShrRef (named 0) κ' b)) (shr_sync (named 0) κ' b second), (as_row_sync (row_field (ShrRef (named 0) κ'' c)) (shr_sync (named 0) κ'' c third), (as_row_sync (row_field (ShrRef (named 0) κ₃ d)) (shr_sync (named 0) κ₃ d last), tt))))

-- and one that borrows five
module _ (a b c d e : RattleType) (κ κ' κ'' κ₃ κ₄ : Lft) where
  abbrev borrowed_five : List RattleType
  borrowed_five = ShrRef (named 0) κ a ∷ ShrRef (named 0) κ' b ∷ ShrRef (named 0) κ'' c ∷ ShrRef (named 0) κ₃ d ∷ ShrRef (named 0) κ₄ e ∷ []

  pub closure_of_five_sync : IsSync a → IsSync b → IsSync c → IsSync d → IsSync e → IsSync (TupleAt [] borrowed_five)
  closure_of_five_sync first second third fourth last =
      declared_sync (type_at [] borrowed_five) (as_row_sync (row_field (ShrRef (named 0) κ a)) (shr_sync (named 0) κ a first), (as_row_sync (row_field (ShrRef (named 0) κ' b)) (shr_sync (named 0) κ' b second), (as_row_sync (row_field (ShrRef (named 0) κ'' c)) (shr_sync (named 0) κ'' c third), (as_row_sync (row_field (ShrRef (named 0) κ₃ d)) (shr_sync (named 0) κ₃ d fourth), (as_row_sync (row_field (ShrRef (named 0) κ₄ e)) (shr_sync (named 0) κ₄ e last), tt)))))
