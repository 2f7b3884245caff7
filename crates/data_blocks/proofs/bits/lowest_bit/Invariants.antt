use Rattle.std.proofs.Common.{◌≡◌, ℕ, ◌*◌, ◌<◌}
use Rattle.data_blocks.specs.Bits.{bit_of}
use Rattle.data_blocks.proofs.bits.lowest_bit.Given as goal

-- no bit is set before this word
abbrev pub invariant-loop-at : goal.invariant-loop-at
invariant-loop-at l = (block : ℕ) → block < 64 * l.at → bit_of l.words block ≡ 0
