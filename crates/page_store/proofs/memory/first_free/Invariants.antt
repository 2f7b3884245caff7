use Rattle.std.proofs.Common.{◌≡◌, ℕ, ◌<◌, true}
use Rattle.page_store.specs.Memory.{place_at}
use Rattle.page_store.proofs.memory.first_free.Given as goal

-- the blocks so far are held
abbrev pub invariant-loop-place : goal.invariant-loop-place
invariant-loop-place l = (k : ℕ) → k < l.place → (place_at l.pages k).held ≡ true
