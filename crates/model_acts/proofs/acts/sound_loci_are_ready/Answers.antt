use Rattle.model_acts.proofs.Ready.{ready}
use Rattle.model_acts.proofs.acts.sound_loci_are_ready.Goals as goal

pub returns : goal.returns
returns c = ready
