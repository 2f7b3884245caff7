use denote.Param.Send.{IsSend, IsSync, sendable}
use mir.Syntax.{named}
use Rattle.std.proofs.Crossing.{crosses}
use Rattle.edge_managers.specs.contracts.managers.CountedWords.{the_row as words}
use Rattle.edge_managers.specs.contracts.managers.EveryVersions.{the_row as versions}
use Rattle.test_boards.specs.contracts.quiet_disk.QuietDisk.{the_row as quiet}
use Rattle.edge_managers.specs.contracts.managers.CountedWordsSupplier.TheImpl.{ghosts as supply}
use Rattle.edge_managers.specs.contracts.managers.EveryVersionsPolicy.TheImpl.{ghosts as policy}
use Rattle.std.proofs.Common.{sym, subst}
use Rattle.thread_sharing.proofs.Sharing.{closure_sync, locks_sync}
use Rattle.thread_workers.specs.thread_desk.Desks.{FirstCounts, IsCountedFrom}
use Rattle.test_boards.specs.contracts.quiet_disk.QuietDiskDisk.TheImpl.{ghosts}
use Rattle.test_boards.proofs.Counts.{counted_by_cause}
use Rattle.test_boards.proofs.workers.Work.TheSendSync.{the_sync as work_sync}
use Rattle.test_boards.proofs.boards.driven.Goals as goal

pub named-requires-clause-counted : goal.named-requires-clause-counted
named-requires-clause-counted g c =
    subst (λ (n : FirstCounts). IsCountedFrom ghosts n c.args.opening.kernel) (sym c.requires.counts) (counted_by_cause ghosts c.args.opening.kernel c.requires.cause)

pub named-requires-clause-tells : goal.named-requires-clause-tells
named-requires-clause-tells g c = λ told. absurd (c.requires.told told)

pub named-requires-clause-run : goal.named-requires-clause-run
named-requires-clause-run g c = λ told. absurd (c.requires.told told)

pub named-requires-clause-along : goal.named-requires-clause-along
named-requires-clause-along g c = λ told. absurd (c.requires.told told)

-- the board's disk may go to another thread, and its managers, of which there is only one each, may be shared and go
quiet_send : IsSend quiet
quiet_send = search (sendable, crosses) depth 300 fits 2000000

words_send : IsSend words
words_send = search sendable

words_sync : IsSync words
words_sync = search sendable

versions_send : IsSend versions
versions_send = search sendable

versions_sync : IsSync versions
versions_sync = search sendable

-- the closure borrows the runtime, the locks, what is told of steps, and the work
pub map_indices-requires-sync-F : goal.map_indices-requires-sync-F
map_indices-requires-sync-F g c κs within =
    let may = c.type_bounds in
    let locks = locks_sync _ _ _ _ ghosts supply policy g.B.Board g.B.Bond g.B.Run g.B.Bench g.B.Ledger quiet_send words_sync versions_sync words_send versions_send may.send-B may.sync-B in
    record { shared = (closure_sync _ _ _ _ _ _ _ κs.0 may.sync-R locks may.sync-G (work_sync (record { mir = named 10; lft = κs.1.1.1.1.1.1.1.1.1.1.0 }))).shared }
