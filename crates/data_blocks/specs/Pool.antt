-- What a contract sees of a pool: a range of block numbers, and which of them are free.
use Rattle.std.specs.Prelude.{◌≡◌, ◌≢◌, ◌⊎◌, ◌↔◌, ℕ, ◌+◌, ◌-◌, ◌^◌, ◌<◌, ◌≤◌, ◌==◌, not, nat_lt, if◌then◌else◌, List, [], ◌∷◌, length, Contains, filter}
use Rattle.std.specs.List.{range_with_len}
use Rattle.std.specs.List.Sorted.{IsStrictlyIncreasing}

-- the range, and the free blocks of it, ascending
pub record Pool : Type 0 where
  pub first : ℕ
  pub end : ℕ
  pub blocks : List ℕ

-- all blocks from the first up to the end are free
abbrev pub full_pool : ℕ → ℕ → Pool
full_pool first end = record { first = first; end = end; blocks = range_with_len first (end - first) }

-- no block of the range is free
abbrev pub empty_pool : ℕ → ℕ → Pool
empty_pool first end = record { first = first; end = end; blocks = [] }

abbrev pub IsFree : Pool → ℕ → Type 0
IsFree p block = Contains p.blocks block

abbrev pub IsInRange : Pool → ℕ → Type 0
IsInRange p block = (p.first ≤ block) × (block < p.end)

-- the block among ascending blocks, in its place
abbrev pub with_block : ℕ → List ℕ → List ℕ
with_block block [] = block ∷ []
with_block block (x ∷ xs) = if nat_lt block x then block ∷ (x ∷ xs) else x ∷ with_block block xs

-- the blocks but for this one
abbrev pub without_block : ℕ → List ℕ → List ℕ
without_block block xs = filter (λ x. not (x == block)) xs

-- one block fewer is free: this one
pub record Takes (block : ℕ) (old new : Pool) : Type 0 where
  pub was_free : IsFree old block
  pub free_now : (other : ℕ) → IsFree new other ↔ (IsFree old other × (other ≢ block))
  pub fewer : length new.blocks + 1 ≡ length old.blocks

-- one block more is free: this one
pub record Gives (block : ℕ) (old new : Pool) : Type 0 where
  pub free_now : (other : ℕ) → IsFree new other ↔ ((other ≡ block) ⊎ IsFree old other)
  pub more : length new.blocks ≡ length old.blocks + 1

-- what holds of every pool
pub record IsOrdered (p : Pool) : Type 0 where
  pub few : p.end < 2 ^ 32
  pub ascending : IsStrictlyIncreasing p.blocks
  pub within : (block : ℕ) → IsFree p block → IsInRange p block
