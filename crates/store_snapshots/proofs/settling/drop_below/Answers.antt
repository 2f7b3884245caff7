use Rattle.std.proofs.Common.{sym, subst, List, arith}
use Rattle.std.specs.Prelude.{slice_index}
use Rattle.store_facts.specs.Keeping.{AreListed}
use Rattle.store_facts.specs.store_books.Books.{Logged}
use Rattle.store_facts.proofs.Listing.{listed_fewer, recounted_back}
use Rattle.store_snapshots.proofs.settling.drop_below.Goals as goal

pub unname_below-requires-clause-named : goal.unname_below-requires-clause-named
unname_below-requires-clause-named c n = (let now = c.requires.listed.counted n in omega (arith, now))

pub returns-clause-listed : goal.returns-clause-listed
returns-clause-listed c =
    subst (λ (ls : List Logged). AreListed c.unname_below.new.ledger ls) (sym c.keep_from.ensures)
    (listed_fewer c.args.ledger.now c.unname_below.new.ledger c.args.kept.now (slice_index c.args.cut.now.0) c.requires.listed c.unname_below.ensures)

pub returns-clause-ledger : goal.returns-clause-ledger
returns-clause-ledger c = recounted_back _ c.args.ledger.now c.unname_below.new.ledger c.unname_below.ensures
