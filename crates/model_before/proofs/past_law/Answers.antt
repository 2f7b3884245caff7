use Rattle.model_before.proofs.Pasts.{past_is}
use Rattle.model_before.proofs.past_law.Goals as goal

pub returns : goal.returns
returns c es x = past_is es x
