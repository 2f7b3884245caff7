use Rattle.model_new_commits.proofs.Behind.{behind_births, behind_look, behind_nothing}
use Rattle.model_new_commits.proofs.new_commits_law.Goals as goal

pub returns-clause-start : goal.returns-clause-start
returns-clause-start c s script w known rules names sound knows = behind_nothing s script w rules names sound known knows

pub returns-clause-births : goal.returns-clause-births
returns-clause-births c s script w known rules names sound knows = behind_births s script w rules names sound known knows

pub returns-clause-look : goal.returns-clause-look
returns-clause-look c s policy script w es l known rules names sound legal knows = behind_look s policy script w rules names sound known es l legal knows
