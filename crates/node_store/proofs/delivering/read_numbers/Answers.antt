use Rattle.std.proofs.Common.{◌<◌, ◌^◌}
use Rattle.std.proofs.lemmas.List.Elements.{All-more}
use Rattle.node_store.proofs.delivering.read_numbers.Goals as goal

pub loop-block-preserved : goal.loop-block-preserved
loop-block-preserved c = All-more (λ block. block < 2 ^ 32) c.args.blocks.now c.loop-block.block-index 0 c.loop-block-test.true c.loop-block.invariant (c.type_inv.blocks c.loop-block.block-index).fits
