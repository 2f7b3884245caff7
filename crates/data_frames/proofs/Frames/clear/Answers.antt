use Rattle.std.proofs.Common.{arith}
use Rattle.data_frames.proofs.Kept.{sound_new}
use Rattle.data_frames.proofs.Frames.clear.Goals as goal

pub invariant_of-self : goal.invariant_of-self
invariant_of-self c =
    let sound = c.self.invariant in
    sound_new _ _ sound.some_frames sound.few_frames c.clear.ensures.empty (omega (arith, sound.reserved))
