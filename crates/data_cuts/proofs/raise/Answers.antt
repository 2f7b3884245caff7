use Rattle.model_cut_laws.proofs.Joins.{holds_closed, to_nothing}
use Rattle.data_cuts.proofs.raise.Goals as goal

pub returns : goal.returns
returns c = to_nothing _ _ _ (holds_closed _ _ c.requires.closed) c.greatest_from.ensures
