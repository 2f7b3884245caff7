use Rattle.data_stamps.proofs.Blanks.{get_or-replicate_all}
use Rattle.data_stamps.proofs.Stamp.new.Goals as goal

pub returns : goal.returns
returns c y = get_or-replicate_all 64 y 0
