use Rattle.std.proofs.Common.{ap, ◌∙◌, arith}
use Rattle.std.proofs.lemmas.List.{take_all}
use Rattle.store_facts.specs.Choosing.{with_tables}
use Rattle.store_facts.proofs.Listing.{recounted_then}
use Rattle.store_facts.proofs.ChosenListed.{few_listed, listed_none, placed_at, placed_still, recounted_same, sized_still, with_more}
use Rattle.store_snapshots.proofs.choosing.list_all.Goals as goal

pub loop-rec-init : goal.loop-rec-init
loop-rec-init c = record { kept = c.clear.ensures; listed = listed_none c.args.ledger.now c.clear.new.self c.clear.ensures c.requires.unnamed; ledger = recounted_same c.args.ledger.now }

pub list_record-requires-clause-room : goal.list_record-requires-clause-room
list_record-requires-clause-room c = few_listed c.args.tables.now c.args.recs.now c.loop-rec.rec-index c.loop-rec.kept c.loop-rec.invariant.kept c.requires.few

pub list_record-requires-clause-sized : goal.list_record-requires-clause-sized
list_record-requires-clause-sized c = sized_still c.args.ledger.now c.loop-rec.ledger c.loop-rec.invariant.ledger c.requires.sized

pub list_record-requires-clause-placed : goal.list_record-requires-clause-placed
list_record-requires-clause-placed c =
    placed_still c.args.ledger.now c.loop-rec.ledger _ c.loop-rec.invariant.ledger
    (placed_at c.args.ledger.now.first c.args.ledger.now.end c.args.tables.now c.args.recs.now c.loop-rec.rec-index c.rec-item.result c.table_for.result.0 c.requires.placed c.loop-rec-test.true c.rec-item.is
    c.table_for.ensures)

pub loop-rec-preserved : goal.loop-rec-preserved
loop-rec-preserved c =
    record {
      kept =
          with_more c.args.tables.now c.args.recs.now c.loop-rec.rec-index c.rec-item.result c.loop-rec.kept c.list_record.new.kept c.table_for.result.0 c.loop-rec-test.true c.rec-item.is
          c.table_for.ensures c.loop-rec.invariant.kept c.list_record.ensures.kept;
      listed = c.list_record.ensures.listed;
      ledger = recounted_then _ _ _ c.loop-rec.invariant.ledger c.list_record.ensures.ledger;
    }

pub returns-clause-kept : goal.returns-clause-kept
returns-clause-kept c = c.loop-rec.invariant.kept ∙ ap (with_tables c.args.tables.now) (take_all c.loop-rec.rec-index c.args.recs.now (let past = c.loop-rec-test.false in omega (arith, past)))
