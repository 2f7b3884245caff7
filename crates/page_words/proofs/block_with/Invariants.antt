use Rattle.std.proofs.Common.{◌≡◌, ◌*◌, ◌<◌, ℕ, get_or}
use Rattle.base_bytes.specs.Fields.{number_at}
use Rattle.page_words.proofs.block_with.Given as goal

abbrev pub invariant-loop-i : goal.invariant-loop-i
invariant-loop-i l = (k : ℕ) → k < l.i → number_at (8 * k) 8 l.block ≡ get_or l.words k 0
