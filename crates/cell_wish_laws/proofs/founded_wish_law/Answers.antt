use Rattle.model_run_laws.specs.model_kernel.Histories.{run_after, start_run}
use Rattle.cell_wish_laws.proofs.Founding.{cell_founded, founded, wish_changed}
use Rattle.cell_wish_laws.proofs.founded_wish_law.Goals as goal

pub returns-clause-runs : goal.returns-clause-runs
returns-clause-runs c s policy script w es x legal = founded s policy script w es x legal

pub returns-clause-wishes : goal.returns-clause-wishes
returns-clause-wishes c s policy script w es x legal is = wish_changed policy (run_after s script (start_run w) es) x (founded s policy script w es x legal) is

pub returns-clause-cells : goal.returns-clause-cells
returns-clause-cells c s policy script w es words steps cell legal has wish =
    cell_founded s words steps (run_after s script (start_run w) es) cell has wish (founded s policy script w es cell.clock.entity legal)
