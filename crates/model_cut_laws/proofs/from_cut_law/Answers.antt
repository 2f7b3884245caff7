use Rattle.model_cut_laws.proofs.Joins.{same_greatest}
use Rattle.model_cut_laws.proofs.Filters.{more, kept}
use Rattle.model_cut_laws.proofs.from_cut_law.Goals as goal

pub returns-clause-same : goal.returns-clause-same
returns-clause-same c start cut cs ds g same = same_greatest start cut cs ds same g

pub returns-clause-more : goal.returns-clause-more
returns-clause-more c = more

pub returns-clause-kept : goal.returns-clause-kept
returns-clause-kept c = kept
