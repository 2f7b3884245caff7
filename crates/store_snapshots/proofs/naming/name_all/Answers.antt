use Rattle.std.proofs.Common.{◌∙◌, arith}
use Rattle.store_facts.proofs.Counting.{few_named, named_more, place_of, zero_more}
use Rattle.store_snapshots.proofs.naming.name_all.Goals.{then-block-ne0, else-block-ne0}
use Rattle.store_snapshots.proofs.naming.name_all.Goals as goal

pub name-requires-clause-range : goal.name-requires-clause-range
name-requires-clause-range c = place_of c.args.blocks.now c.loop-block.block-index c.args.ledger.now c.loop-block.ledger c.requires.places c.loop-block.invariant c.loop-block-test.true c.if-block-ne0.true

pub name-requires-clause-few : goal.name-requires-clause-few
name-requires-clause-few c = few_named c.args.blocks.now c.loop-block.block-index c.args.ledger.now c.loop-block.ledger _ c.requires.few c.loop-block.invariant c.loop-block-test.true c.if-block-ne0.true

pub loop-block-preserved : goal.loop-block-preserved
loop-block-preserved c = elim c.if-block-ne0.branch [
  | then-block-ne0 w ↦
      let place = place_of c.args.blocks.now c.loop-block.block-index c.args.ledger.now c.loop-block.ledger c.requires.places c.loop-block.invariant c.loop-block-test.true w.if-block-ne0.true in
      let sized = c.requires.sized in
      let same = c.loop-block.invariant.same_size in
      let end = c.loop-block.invariant.same_end in
      named_more c.args.blocks.now c.loop-block.block-index c.args.ledger.now c.loop-block.ledger c.if-block-ne0.ledger c.loop-block-test.true w.if-block-ne0.true (let high = place.1 in omega (arith, high, sized, same, end)) c.loop-block.invariant (w.ledger-is ∙ w.name.ensures)
  | else-block-ne0 w ↦ rw w.ledger-is (zero_more c.args.blocks.now c.loop-block.block-index c.args.ledger.now c.loop-block.ledger c.loop-block-test.true w.if-block-ne0.false c.loop-block.invariant)
]
