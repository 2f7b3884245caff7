use Rattle.std.proofs.Common.{◌≡◌, replicate}
use Rattle.edge_disk.proofs.memory.zero_blocks.Given as goal

abbrev pub invariant-loop-made : goal.invariant-loop-made
invariant-loop-made l = l.blocks.items ≡ replicate l._made (replicate 1024 0)
