use Rattle.byteorder.specs.Endian.{little_bytes}
use Rattle.blob_facts.proofs.ItemsPut.{items_fit}
use Rattle.blob_writing.proofs.numbers.put_blocks.Goals as goal

pub put_u32-requires : goal.put_u32-requires
put_u32-requires c = items_fit (little_bytes 4) c.args.blocks.now c.loop-block.block-index 0 c.args.blob.now c.loop-block.blob c.loop-block-test.true c.requires c.loop-block.invariant
