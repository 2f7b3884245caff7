use Rattle.std.proofs.Common.{◌∙◌, arith}
use Rattle.store_facts.proofs.Counting.{still_named, unnamed_more, unplace_of, zero_more}
use Rattle.store_snapshots.proofs.naming.unname_all.Goals.{then-block-ne0, else-block-ne0}
use Rattle.store_snapshots.proofs.naming.unname_all.Goals as goal

pub unname-requires-clause-range : goal.unname-requires-clause-range
unname-requires-clause-range c = unplace_of c.args.blocks.now c.loop-block.block-index c.args.ledger.now c.loop-block.ledger c.requires.places c.loop-block.invariant c.loop-block-test.true c.if-block-ne0.true

pub unname-requires-clause-named : goal.unname-requires-clause-named
unname-requires-clause-named c = still_named c.args.blocks.now c.loop-block.block-index c.args.ledger.now c.loop-block.ledger c.requires.named c.loop-block.invariant c.loop-block-test.true c.if-block-ne0.true

pub loop-block-preserved : goal.loop-block-preserved
loop-block-preserved c = elim c.if-block-ne0.branch [
  | then-block-ne0 w ↦
      let place = unplace_of c.args.blocks.now c.loop-block.block-index c.args.ledger.now c.loop-block.ledger c.requires.places c.loop-block.invariant c.loop-block-test.true w.if-block-ne0.true in
      let above = still_named c.args.blocks.now c.loop-block.block-index c.args.ledger.now c.loop-block.ledger c.requires.named c.loop-block.invariant c.loop-block-test.true w.if-block-ne0.true in
      let sized = c.requires.sized in
      let same = c.loop-block.invariant.same_size in
      let end = c.loop-block.invariant.same_end in
      unnamed_more c.args.blocks.now c.loop-block.block-index c.args.ledger.now c.loop-block.ledger c.if-block-ne0.ledger c.loop-block-test.true w.if-block-ne0.true (let high = place.1 in omega (arith, high, sized, same, end)) above c.loop-block.invariant (w.ledger-is ∙ w.unname.ensures)
  | else-block-ne0 w ↦ rw w.ledger-is (zero_more c.args.blocks.now c.loop-block.block-index c.loop-block.ledger c.args.ledger.now c.loop-block-test.true w.if-block-ne0.false c.loop-block.invariant)
]
