use Rattle.cell_births.proofs.Readiness.{next_named}
use Rattle.cell_births.proofs.laws.next_births_are_named.Goals as goal

pub returns : goal.returns
returns c = next_named
