use Rattle.kernel_invariant.proofs.Apart.{kept_apart, more_apart}
use Rattle.kernel_invariant.proofs.pages_apart_law.Goals as goal

pub returns-clause-kept : goal.returns-clause-kept
returns-clause-kept c b tables image o = kept_apart b tables image o

pub returns-clause-more : goal.returns-clause-more
returns-clause-more c b tables image new o a = more_apart b tables image o new a
