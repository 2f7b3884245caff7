use Rattle.kernel_book_laws.proofs.Keeping.{settled}
use Rattle.kernel_book_laws.proofs.settled_law.Goals as goal

pub returns : goal.returns
returns c = settled
