use Rattle.std.proofs.Common.{◌≡◌, ℕ, false, length}
use Rattle.page_store.specs.Memory.{AreWhole, place_at}
use Rattle.page_store.proofs.memory.free_pages.Given as goal

-- the blocks so far are whole and free
abbrev pub invariant-loop-made : goal.invariant-loop-made
invariant-loop-made l = record {
  len : length l.pages.items ≡ l._made;
  whole : AreWhole l.pages.items;
  none_held : (place : ℕ) → (place_at l.pages.items place).held ≡ false;
}
