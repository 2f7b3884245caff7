use Rattle.data_frames.proofs.Kept.{sound_new}
use Rattle.data_frames.proofs.Frames.new.Goals as goal

pub invariant_of-result : goal.invariant_of-result
invariant_of-result c = sound_new _ _ c.requires.some c.requires.few c.in_ok-with_capacity.ensures.empty c.in_ok-with_capacity.ensures.capacity
