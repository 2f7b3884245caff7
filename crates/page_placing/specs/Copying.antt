-- Pages of a table, copied to blocks that were free.
use Rattle.std.specs.Prelude.{◌≡◌, ◌≢◌, ℕ, ◌==◌, not, List, count_by, slice_index}
use Rattle.page_store.specs.declared.store.PageStore.{Ghosts}
use Rattle.page_placing.specs.Placing.{PlacesOne, TakesBlocks}

-- how many pages of a table have a block
abbrev pub blocks_in : List ℕ → ℕ
blocks_in table = count_by (λ n. not (n == 0)) table

-- one page is copied, if it has a block
pub record CopiesOne {B : Type 0} (stores : Ghosts B) (from : List ℕ) (page : ℕ) (table table' : List ℕ) (old new : B) : Type 0 where
  pub none : slice_index from page ≡ 0 → (table' ≡ table) × (new ≡ old)
  pub one : slice_index from page ≢ 0 → PlacesOne stores page (stores.words old (slice_index from page)) table table' old new

-- exactly the pages that have a block have one in the other table, each of its own that was free, with the same words
pub record AreCopied {B : Type 0} (stores : Ghosts B) (from table : List ℕ) (old new : B) : Type 0 where
  pub each : (p : ℕ) → slice_index from p ≢ 0 → slice_index table p ≢ 0
  pub none : (p : ℕ) → slice_index table p ≢ 0 → slice_index from p ≢ 0
  pub words_are : stores.tells → (p : ℕ) → slice_index table p ≢ 0 → stores.words new (slice_index table p) ≡ stores.words old (slice_index from p)
  pub taken : TakesBlocks stores (blocks_in from) table old new
