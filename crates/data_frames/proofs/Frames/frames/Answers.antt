use Rattle.data_frames.proofs.Kept.{bounded}
use Rattle.data_frames.proofs.Frames.frames.Goals as goal

pub returns-clause-bounded : goal.returns-clause-bounded
returns-clause-bounded c = rw (← c.self.view_is) (bounded _ _ _ c.self.invariant c.self.inside.hand)
