-- How the free blocks are kept: one bit for each block, 64 to a word.
use Rattle.std.specs.Prelude.{◌≡◌, ◌≢◌, ℕ, ◌+◌, ◌-◌, ◌*◌, ◌/◌, ◌%◌, ◌^◌, ◌<◌, ◌≤◌, ◌==◌, Bool, List, length, filter, slice_index}
use Rattle.std.specs.List.{range_with_len}
use Rattle.std.specs.Int.{bit_at}
use Rattle.data_blocks.specs.Pool.{Pool}

-- the bit of a block
abbrev pub bit_of : List ℕ → ℕ → ℕ
bit_of words block = bit_at (slice_index words (block / 64)) (block % 64)

abbrev pub is_set : List ℕ → ℕ → Bool
is_set words block = bit_of words block == 1

-- the free blocks
abbrev pub free_blocks : List ℕ → ℕ → ℕ → List ℕ
free_blocks words first end = filter (is_set words) (range_with_len first (end - first))

abbrev pub pool_of : List ℕ → ℕ → ℕ → Pool
pool_of words first end = record { first = first; end = end; blocks = free_blocks words first end }

-- one bit becomes this, and all others stay
pub record WritesBit (old new : List ℕ) (block bit : ℕ) : Type 0 where
  pub written : bit_of new block ≡ bit
  pub others : (other : ℕ) → other ≢ block → bit_of new other ≡ bit_of old other

-- the words have a bit for each block, set for the free blocks of the range alone
pub record IsSound (words : List ℕ) (first end free hint : ℕ) : Type 0 where
  pub few : end < 2 ^ 32
  pub all_blocks : length words ≡ end / 64 + 1
  pub within : (block : ℕ) → bit_of words block ≡ 1 → (first ≤ block) × (block < end)
  pub counted : free ≡ length (free_blocks words first end)
  -- no block is free in the words before this one
  pub hinted : (block : ℕ) → block < 64 * hint → bit_of words block ≡ 0
