use Rattle.std.proofs.Common.{false}
use Rattle.model_run_laws.proofs.Starts.{none_below_start, starts_first, starts_held}
use Rattle.model_run_laws.proofs.opened_records_law.Goals as goal

pub returns-clause-first : goal.returns-clause-first
returns-clause-first c s script w es = starts_first s (λ _ _. false) script w es

pub returns-clause-from : goal.returns-clause-from
returns-clause-from c s policy script w es legal = none_below_start s policy script w es legal

pub returns-clause-held : goal.returns-clause-held
returns-clause-held c s script w later below none = starts_held s script w later below none
