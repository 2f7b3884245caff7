use Rattle.std.proofs.Common.{ap}
use Rattle.thread_board.specs.Sides.{Noting, PassSeen}
use Rattle.thread_board.proofs.Within.{within_told}
use Rattle.thread_board.proofs.slips.Slip.take_back.Goals as goal

pub returns-clause-within : goal.returns-clause-within
returns-clause-within g c =
    within_told _ _ _ _ _ c.pass.invariant.5 c.take_pass.ensures.begins (ap (λ (p : PassSeen g.row.T.Denot). p.items) c.pass.view_is) (ap (λ (s : Noting g.row.C.Denot g.row.T.Denot). s.items) c.self.view_is)
