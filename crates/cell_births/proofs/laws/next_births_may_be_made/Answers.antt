use Rattle.cell_births.proofs.Readiness.{may_bear_container, may_bear_locus}
use Rattle.cell_births.proofs.laws.next_births_may_be_made.Goals as goal

pub returns-clause-container : goal.returns-clause-container
returns-clause-container c = may_bear_container

pub returns-clause-locus : goal.returns-clause-locus
returns-clause-locus c = may_bear_locus
