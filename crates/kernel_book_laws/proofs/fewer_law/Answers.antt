use Rattle.kernel_book_laws.proofs.Keeping.{fewer}
use Rattle.kernel_book_laws.proofs.fewer_law.Goals as goal

pub returns : goal.returns
returns c = fewer
