-- Some word begins with the front, and none of those that were tried goes further.
use Rattle.std.proofs.Common.{◌≡◌, ℕ, ◌<◌, ◌≤◌, length, take}
use Rattle.base_instructions.specs.Forms.{word_at}
use Rattle.base_instructions.proofs.words.read_word.Given as goal

abbrev pub invariant-loop-code : goal.invariant-loop-code
invariant-loop-code l = record {
  within : l.longest ≤ length l.bytes;
  some : (k : ℕ) × (k < 26) × (l.longest ≤ length (word_at k)) × (take l.longest (word_at k) ≡ take l.longest l.bytes);
  tried : (k n : ℕ) → k < l.code → n ≤ length (word_at k) → n ≤ length l.bytes → take n (word_at k) ≡ take n l.bytes → n ≤ l.longest;
}
