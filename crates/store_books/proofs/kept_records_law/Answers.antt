use Rattle.store_books.specs.Books.{recs_in}
use Rattle.store_books.proofs.Keeping.{kept_agree, kept_recs, narrow_recs}
use Rattle.store_books.proofs.kept_records_law.Goals as goal

pub returns-clause-kept : goal.returns-clause-kept
returns-clause-kept c = kept_recs

pub returns-clause-agree : goal.returns-clause-agree
returns-clause-agree c image b all = kept_agree image b (narrow_recs (recs_in b) all)
