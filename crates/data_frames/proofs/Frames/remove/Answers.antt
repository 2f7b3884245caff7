use Rattle.std.proofs.Common.{arith}
use Rattle.data_frames.proofs.Kept.{sound_removed, removed, mine_at}
use Rattle.data_frames.proofs.Frames.remove.Goals as goal

pub invariant_of-self : goal.invariant_of-self
invariant_of-self c =
    let done = c.remove-frame.ensures in
    sound_removed _ _ _ c.self.invariant _ c.args.page c.in_ok-key.key (omega arith) c.in_ok-key.was done.updates done.len done.capacity

pub returns-clause-gone : goal.returns-clause-gone
returns-clause-gone c =
    rw (← c.self.view_is)
    (removed _ _ _ c.self.invariant _ c.args.page c.in_ok-key.key (omega arith) c.in_ok-key.was c.remove-frame.ensures.updates c.self.inside.hand c.remove-frame.result c.remove-frame.ensures.value (mine_at _ _ _ c.self.invariant c.args.page c.in_ok-key.key c.remove-frame.result c.in_ok-key.was c.remove-frame.ensures.value))
