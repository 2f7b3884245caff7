use Rattle.std.proofs.Common.{sym}
use Rattle.model_kernel.specs.Histories.{start_run}
use Rattle.model_clocks.proofs.Runs.{legal_alike, runs_over, start_like}
use Rattle.model_clocks.proofs.legal_start_law.Goals as goal

pub returns-clause-legal : goal.returns-clause-legal
returns-clause-legal c s policy script w v es alike low low_too = (
  legal_alike s policy script w v es alike low low_too,
  legal_alike s policy script v w es (λ x. record { cell = sym (alike x).cell; version = sym (alike x).version }) low_too low,
)

pub returns-clause-behind : goal.returns-clause-behind
returns-clause-behind c s policy script w v es alike low low_too legal = (runs_over s policy script (λ x. (w x).version) es (start_run w) (start_run v) (start_like w v alike low low_too) legal).alike
