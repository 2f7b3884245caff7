-- How many blocks there are at most to need.
use Rattle.std.proofs.Common.{ℕ, zero, suc, ◌≤◌, Bool, true, false, if◌then◌else◌, arith}
use Rattle.act_look.specs.page_memory.declared.paged.PagedMemory.{PagedMemory}
use Rattle.act_look.specs.page_memory.Words.{need_below, need_of, needs_block}

one_at_most : (b : Bool) → (if b then 1 else 0) ≤ 1
one_at_most true = omega arith
one_at_most false = omega arith

need_few : (kept : ℕ → Bool) (m : PagedMemory) (n : ℕ) → need_below kept m n ≤ n
unfolding need_below
need_few kept m zero = omega arith
need_few kept m (suc n) = let few = need_few kept m n in let one = one_at_most (needs_block kept m n) in omega (arith, few, one)

-- pages need at most one each
pub few_pages : (kept : ℕ → Bool) (m : PagedMemory) → need_of kept m ≤ 256
few_pages kept m = need_few kept m 256
