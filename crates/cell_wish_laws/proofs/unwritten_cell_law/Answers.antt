use Rattle.cell_wish_laws.proofs.Going.{unwritten_cell, unwritten_wish}
use Rattle.cell_wish_laws.proofs.unwritten_cell_law.Goals as goal

pub returns-clause-cell : goal.returns-clause-cell
returns-clause-cell c s script r me e v words cell made none has = unwritten_cell s script r me e v made cell none words has

pub returns-clause-wish : goal.returns-clause-wish
returns-clause-wish c s script r me e v steps cell made none has = unwritten_wish s script r me e v made cell none steps has
