-- That what a worker leaves may go to another thread.
use Rattle.std.proofs.Crossing.{crosses}
use denote.Param.Send.{IsSend, sendable}
use denote.RattleType.{RattleType}
use Rattle.std.specs.declared.sync.ledger.Ledger.{Ghosts as Ledgers}
use Rattle.thread_board.specs.declared.slates.Bench.{Ghosts as Benches}
use Rattle.thread_board.proofs.passes.Pass.TheSendSync.{the_send as pass_send}
use Rattle.thread_items.specs.contracts.items.LookItem.{the_row as look_item}
use Rattle.thread_runs.specs.contracts.workers.Worked.{the_row as worked}

look_item_send : Unit {0} → IsSend look_item
look_item_send u = search (sendable, crosses) depth 60

pub worked_send : (B : RattleType) (bench : Benches B.Denot) (ledger : Ledgers B.Denot) → IsSend B → IsSend (worked B bench ledger)
worked_send B bench ledger name_send = search (sendable, crosses, look_item_send, pass_send) depth 100 fits 2000000
