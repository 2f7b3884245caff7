use Rattle.cell_steps.proofs.laws.noting_law.Goals as goal

pub returns : goal.returns
returns c steps r cell has = record { newest = has.newest; by_step = has.by_step; asked = has.asked; left = has.left }
