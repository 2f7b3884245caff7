use Rattle.model_copies.proofs.Needs.{both_taken, first_alone, second_alone}
use Rattle.model_copies.proofs.two_commits_law.Goals as goal

pub returns-clause-first : goal.returns-clause-first
returns-clause-first c = first_alone

pub returns-clause-second : goal.returns-clause-second
returns-clause-second c = second_alone

pub returns-clause-both : goal.returns-clause-both
returns-clause-both c = both_taken
