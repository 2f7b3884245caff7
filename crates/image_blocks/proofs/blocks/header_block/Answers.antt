use Rattle.image_facts.specs.Layout.{header_block}
use Rattle.base_bytes.proofs.Filling.{ok_gives}
use Rattle.image_blocks.proofs.blocks.header_block.Goals as goal

pub returns : goal.returns
unfolding header_block
returns c = (ok_gives _ _ _ c.unwrap.ensures c.put_u64.ensures.ok).put
