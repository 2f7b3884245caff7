use Rattle.std.proofs.Common.{false, refl}
use Rattle.model_run_rules.proofs.Commits.{commits_told, tried_told}
use Rattle.model_run_rules.proofs.commits_law.Goals as goal

pub returns-clause-start : goal.returns-clause-start
returns-clause-start c s script w = refl

pub returns-clause-next : goal.returns-clause-next
returns-clause-next c s policy script w es e legal = commits_told s policy script w es e legal

pub returns-clause-tried : goal.returns-clause-tried
returns-clause-tried c s script w es e is = tried_told s (λ _ _. false) script w es e is
