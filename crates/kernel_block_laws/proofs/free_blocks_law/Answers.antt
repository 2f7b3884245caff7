use Rattle.kernel_block_laws.proofs.Used.{free_bound}
use Rattle.kernel_block_laws.proofs.free_blocks_law.Goals as goal

pub returns : goal.returns
returns c b tables o looked low = free_bound b tables o looked low
