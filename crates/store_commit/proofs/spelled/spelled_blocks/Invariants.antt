use Rattle.std.proofs.Common.{◌≡◌, length}
use Rattle.store_commit.proofs.Chunks.{HasChunks}
use Rattle.store_commit.proofs.spelled.spelled_blocks.Given as goal

abbrev pub invariant-loop-i : goal.invariant-loop-i
invariant-loop-i l = (length l.blocks ≡ 8) × HasChunks l.bytes l.i l.blocks
