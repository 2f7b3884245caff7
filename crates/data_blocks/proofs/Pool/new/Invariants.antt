use Rattle.std.proofs.Common.{◌≡◌, ℕ, ◌+◌, ◌/◌, ◌<◌, ◌≤◌, length}
use Rattle.data_blocks.specs.Bits.{bit_of}
use Rattle.data_blocks.proofs.Pool.new.Given as goal

-- the bits of the blocks so far are set, and no others
abbrev pub invariant-loop-block : goal.invariant-loop-block
invariant-loop-block l = record {
  len : length l.words.items ≡ l.end / 64 + 1;
  on : (b : ℕ) → l.first ≤ b → b < l.block → bit_of l.words.items b ≡ 1;
  before : (b : ℕ) → b < l.first → bit_of l.words.items b ≡ 0;
  after : (b : ℕ) → l.block ≤ b → bit_of l.words.items b ≡ 0;
  past : (b : ℕ) → l.end ≤ b → bit_of l.words.items b ≡ 0;
}
