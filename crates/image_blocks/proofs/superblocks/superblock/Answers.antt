use Rattle.std.proofs.Common.{refl}
use Rattle.image_facts.proofs.FirstBlock.{superblock-from}
use Rattle.image_blocks.proofs.superblocks.superblock.Goals as goal

pub returns : goal.returns
returns c = superblock-from c.args.blocks c.to_le_bytes-n.result c.copy_from_slice.new.self _ c.to_le_bytes-n.ensures c.copy_from_slice.ensures.after refl
