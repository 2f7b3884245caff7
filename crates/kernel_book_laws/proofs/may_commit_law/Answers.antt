use Rattle.kernel_book_laws.proofs.Committable.{may_commit}
use Rattle.kernel_book_laws.proofs.may_commit_law.Goals as goal

pub returns : goal.returns
returns c = may_commit
