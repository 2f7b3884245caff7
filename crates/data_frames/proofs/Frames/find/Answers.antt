use Rattle.data_frames.proofs.Kept.{frame_found}
use Rattle.data_frames.proofs.Frames.find.Goals as goal

pub returns-clause-frame : goal.returns-clause-frame
returns-clause-frame c = rw (← c.self.view_is) (frame_found _ _ _ c.self.invariant c.self.inside.hand c.args.page)
