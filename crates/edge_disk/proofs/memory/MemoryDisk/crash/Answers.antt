use Rattle.std.proofs.Common.{arith}
use Rattle.edge_disk.proofs.TapeMoments.{length-blocks}
use Rattle.edge_disk.proofs.memory.MemoryDisk.crash.Goals as goal

pub with_blocks-requires-clause-few : goal.with_blocks-requires-clause-few
with_blocks-requires-clause-few c =
    let tape = c.args.self.now.tape in
    omega (arith, c.in_ok-blocks.ensures.whole.len, length-blocks tape, tape.countable)
