-- What a contract sees of a ledger of blocks: which are held, how often each is named, and so which are free.
use Rattle.std.specs.Prelude.{◌≡◌, ℕ, ◌-◌, Bool, false, not, ◌||◌, nat_lt, List, length, filter, slice_index, slice_index_or}
use Rattle.std.specs.List.{range_with_len}
use Rattle.data_blocks.specs.Pool.{Pool}

-- the range; for each block below its end whether it is held, and how often it is named; and whether each counts as named
pub record Ledger : Type 0 where
  pub first : ℕ
  pub end : ℕ
  pub held : List Bool
  pub names : List ℕ
  pub all_named : Bool

abbrev pub is_held : Ledger → ℕ → Bool
is_held l n = slice_index_or l.held n false

abbrev pub is_named : Ledger → ℕ → Bool
is_named l n = l.all_named || nat_lt 0 (slice_index l.names n)

-- a block that is neither held nor named
abbrev pub is_unused : Ledger → ℕ → Bool
is_unused l n = not (is_held l n || is_named l n)

-- the free blocks, ascending
abbrev pub unused_blocks : Ledger → List ℕ
unused_blocks l = filter (is_unused l) (range_with_len l.first (l.end - l.first))

-- HOW IT IS KEPT: a mark for each block that is held, a count for each that is named, and the free blocks in a pool

abbrev pub ledger_of : Pool → List Bool → List ℕ → Bool → Ledger
ledger_of pool held names all_named = record { first = pool.first; end = pool.end; held = held; names = names; all_named = all_named }

pub record IsKept (pool : Pool) (held : List Bool) (names : List ℕ) (all_named : Bool) : Type 0 where
  pub marks : length held ≡ pool.end
  pub counts : length names ≡ pool.end
  pub free : pool.blocks ≡ unused_blocks (ledger_of pool held names all_named)
