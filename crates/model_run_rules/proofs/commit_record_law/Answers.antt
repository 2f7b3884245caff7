use Rattle.model_run_rules.proofs.Ascending.{commits_ascend}
use Rattle.model_run_rules.proofs.Records.{commits_recorded}
use Rattle.model_run_rules.proofs.commit_record_law.Goals as goal

pub returns-clause-records : goal.returns-clause-records
returns-clause-records c s policy script w es legal = commits_recorded s policy script w es legal

pub returns-clause-ascending : goal.returns-clause-ascending
returns-clause-ascending c s policy script w es legal = commits_ascend s policy script w es legal
