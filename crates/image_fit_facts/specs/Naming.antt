-- How often a block is named, counted up to two.
use Rattle.std.specs.Prelude.{◌≡◌, ℕ, ◌<◌, Bool, ◌&&◌, ◌||◌, ◌==◌, if◌then◌else◌, nat_le, nat_lt, List, length, count_by, slice_index, min}
use Rattle.image_meaning.specs.image_facts.Layout.{pool_at}

abbrev pub count_of : List ℕ → ℕ → ℕ
count_of blocks b = count_by (λ n. n == b) blocks

abbrev pub one_at : ℕ → ℕ → ℕ
one_at n b = if n == b then 1 else 0

-- per block how often it is named, 2 for more
abbrev pub AreUses : List ℕ → (ℕ → ℕ) → Type 0
AreUses uses f = (b : ℕ) → b < length uses → slice_index uses b ≡ min (f b) 2

-- there is no block, or one of the pool that is named once
abbrev pub block_passes : List ℕ → ℕ → Bool
block_passes uses b = b == 0 || nat_le pool_at b && nat_lt b (length uses) && nat_lt (slice_index uses b) 2
