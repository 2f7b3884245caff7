-- Blocks that are taken for a blob, and given back.
use Rattle.std.specs.Prelude.{◌≡◌, ◌≢◌, ℕ, ◌<◌, ◌≤◌, ◌||◌, true, false, List, length, slice_index}
use Rattle.data_blocks.specs.Ledger.{Ledger, is_held, is_named}

-- the first so many of these blocks were free, and are held now; behind them stands 0, and nothing else is another
pub record HasTaken (many : ℕ) (old new : Ledger) (blocks : List ℕ) : Type 0 where
  pub only : new ≡ record old { held = new.held }
  pub same_size : length new.held ≡ length old.held
  pub unused : (i : ℕ) → i < many → (is_held old (slice_index blocks i) || is_named old (slice_index blocks i)) ≡ false
  pub range : (i : ℕ) → i < many → (old.first ≤ slice_index blocks i) × (slice_index blocks i < old.end)
  pub different : (i k : ℕ) → i < many → k < i → slice_index blocks k ≢ slice_index blocks i
  pub behind : (i : ℕ) → many ≤ i → slice_index blocks i ≡ 0
  pub held : (i : ℕ) → i < many → is_held new (slice_index blocks i) ≡ true
  pub others : (n : ℕ) → ((i : ℕ) → i < many → n ≢ slice_index blocks i) → is_held new n ≡ is_held old n

-- the first so many of these blocks aren't held any more, and nothing else is another
pub record HasReleased (many : ℕ) (old new : Ledger) (blocks : List ℕ) : Type 0 where
  pub only : new ≡ record old { held = new.held }
  pub same_size : length new.held ≡ length old.held
  pub gone : (i : ℕ) → i < many → is_held new (slice_index blocks i) ≡ false
  pub others : (n : ℕ) → ((i : ℕ) → i < many → n ≢ slice_index blocks i) → is_held new n ≡ is_held old n
