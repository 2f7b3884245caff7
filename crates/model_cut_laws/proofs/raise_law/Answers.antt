use Rattle.model_cut_laws.proofs.Joins.{closed_more, holds_closed, to_nothing, greatest_of_kept}
use Rattle.model_cut_laws.proofs.raise_law.Goals as goal

pub returns-clause-closed : goal.returns-clause-closed
returns-clause-closed c start cut cs ds g = closed_more start cs ds cut g.closed

pub returns-clause-raised : goal.returns-clause-raised
returns-clause-raised c cut p cs closed g = to_nothing cut cs p (holds_closed cut cs closed) g

pub returns-clause-kept : goal.returns-clause-kept
returns-clause-kept c = greatest_of_kept
