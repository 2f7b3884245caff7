use Rattle.std.proofs.Common.{sym, subst, List, arith}
use Rattle.store_facts.specs.Keeping.{AreListed}
use Rattle.store_facts.specs.store_books.Books.{Logged}
use Rattle.store_facts.proofs.Listing.{few_uses, listed_more, recounted}
use Rattle.store_snapshots.proofs.settling.list_record.Goals as goal

pub name_record-requires-clause-few : goal.name_record-requires-clause-few
name_record-requires-clause-few c n =
    let all = few_uses c.args.ledger.now.first c.args.ledger.now.end n c.args.kept.now c.requires.listed.placed c.requires.room in
    let now = c.requires.listed.counted n in
    omega (arith, all, now)

pub returns-clause-listed : goal.returns-clause-listed
returns-clause-listed c =
    subst (λ (ls : List Logged). AreListed c.name_record.new.ledger ls) (sym c.push.ensures)
    (listed_more c.args.ledger.now c.name_record.new.ledger c.args.kept.now (record { rec = c.args.rec.now; table = c.args.table.now.0 }) c.requires.listed c.requires.placed c.name_record.ensures)

pub returns-clause-ledger : goal.returns-clause-ledger
returns-clause-ledger c = recounted _ c.args.ledger.now c.name_record.new.ledger c.name_record.ensures
