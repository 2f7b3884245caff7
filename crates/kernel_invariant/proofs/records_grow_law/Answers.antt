use Rattle.kernel_invariant.proofs.Growing.{books_grow, fitting_narrow, records_grow}
use Rattle.store_books.specs.Books.{recs_in}
use Rattle.kernel_invariant.proofs.records_grow_law.Goals as goal

pub returns-clause-grow : goal.returns-clause-grow
returns-clause-grow c b es cs ks new a one = records_grow b es cs ks new a one

pub returns-clause-books : goal.returns-clause-books
returns-clause-books c b es cs count old new image l a one fit more log =
    books_grow b es cs old image l a one (fitting_narrow count (recs_in old) fit) new log (fitting_narrow count (recs_in new) more)
