use Rattle.std.proofs.Common.{[]}
use Rattle.thread_history.proofs.Ready.{ready_among}
use Rattle.thread_history.proofs.authorities.HistoryAuthority.append_alone.Goals as goal

pub append_told-requires-clause-ready : goal.append_told-requires-clause-ready
append_told-requires-clause-ready g c = ready_among g.T.Item.concerns _ [] _ c.self.invariant.4 c.requires.shares
