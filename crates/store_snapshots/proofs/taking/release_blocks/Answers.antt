use Rattle.store_facts.proofs.Marks.{released_more, still_held, still_range}
use Rattle.store_snapshots.proofs.taking.release_blocks.Goals as goal

pub give_back-requires-clause-range : goal.give_back-requires-clause-range
give_back-requires-clause-range c =
    let range = c.requires.range c.loop-block.block-index c.loop-block-test.true in
    still_range c.loop-block.block-index c.args.ledger.now c.loop-block.ledger c.args.blocks.now c.loop-block.invariant c.requires.marked range.0 range.1 (λ k lt. c.requires.different c.loop-block.block-index k c.loop-block-test.true lt) (c.requires.held c.loop-block.block-index c.loop-block-test.true)

pub give_back-requires-clause-held : goal.give_back-requires-clause-held
give_back-requires-clause-held c =
    let range = c.requires.range c.loop-block.block-index c.loop-block-test.true in
    still_held c.loop-block.block-index c.args.ledger.now c.loop-block.ledger c.args.blocks.now c.loop-block.invariant c.requires.marked range.0 range.1 (λ k lt. c.requires.different c.loop-block.block-index k c.loop-block-test.true lt) (c.requires.held c.loop-block.block-index c.loop-block-test.true)

pub loop-block-preserved : goal.loop-block-preserved
loop-block-preserved c =
    let range = c.requires.range c.loop-block.block-index c.loop-block-test.true in
    released_more c.loop-block.block-index c.args.ledger.now c.loop-block.ledger c.args.blocks.now c.loop-block.invariant c.requires.marked range.0 range.1 (λ k lt. c.requires.different c.loop-block.block-index k c.loop-block-test.true lt) (c.requires.held c.loop-block.block-index c.loop-block-test.true) c.give_back.new.self c.give_back.ensures
