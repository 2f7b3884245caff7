use Rattle.cell_copies.proofs.Refusing.{defined, refused}
use Rattle.cell_copies.proofs.refusals.refusal_law.Goals as goal

pub returns-clause-defined : goal.returns-clause-defined
returns-clause-defined c = defined

pub returns-clause-refused : goal.returns-clause-refused
returns-clause-refused c = refused
