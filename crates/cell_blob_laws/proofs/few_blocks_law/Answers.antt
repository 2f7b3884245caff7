use Rattle.cell_blob_laws.proofs.FewBlocks.{part_few}
use Rattle.cell_blob_laws.proofs.few_blocks_law.Goals as goal

pub returns : goal.returns
returns c held p own = part_few held p own
