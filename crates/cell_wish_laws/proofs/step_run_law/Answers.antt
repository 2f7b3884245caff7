use Rattle.cell_wish_laws.proofs.Going.{state_left, wish_left}
use Rattle.cell_wish_laws.proofs.step_run_law.Goals as goal

pub returns-clause-state : goal.returns-clause-state
returns-clause-state c s script r me e v made = state_left s script r me e v made

pub returns-clause-wish : goal.returns-clause-wish
returns-clause-wish c s script r me e v steps cell made has = wish_left s script r me e v made steps cell has
