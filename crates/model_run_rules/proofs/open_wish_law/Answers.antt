use Rattle.model_run_rules.proofs.Wishes.{newest_told, wish_told}
use Rattle.model_run_rules.proofs.open_wish_law.Goals as goal

pub returns-clause-wish : goal.returns-clause-wish
returns-clause-wish c s policy script w es x legal low = wish_told s policy script x low w es legal

pub returns-clause-newest : goal.returns-clause-newest
returns-clause-newest c s policy script w es x legal low = newest_told s policy script x low w es legal
