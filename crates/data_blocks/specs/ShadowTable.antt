-- What the entries of a page table stand for.
use Rattle.std.specs.Prelude.{ℕ, zero, suc, Option, Some, None}

-- the block, where 0 stands for none
abbrev pub block_of : ℕ → Option ℕ
block_of zero = None
block_of (suc n) = Some (suc n)
