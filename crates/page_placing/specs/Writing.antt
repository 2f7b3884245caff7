-- Given pages, written to blocks that were free, and given back.
use Rattle.std.specs.Prelude.{◌≡◌, ◌≢◌, ℕ, ◌<◌, false, true, List, Some, slice_get, slice_index}
use Rattle.page_store.specs.declared.store.PageStore.{Ghosts}
use Rattle.page_placing.specs.declared.writing.PageWords.{PageWords}
use Rattle.page_placing.specs.Placing.{TakesBlocks}

-- pages ascend
abbrev pub AreAscending : List PageWords → Type 0
AreAscending pages = (i k : ℕ) (p q : PageWords) → i < k → slice_get pages i ≡ Some p → slice_get pages k ≡ Some q → p.page < q.page

-- the first so many pages are written, each to a block of its own that was free
pub record AreWritten {B : Type 0} (stores : Ghosts B) (pages : List PageWords) (many : ℕ) (table : List ℕ) (old new : B) : Type 0 where
  pub each : (k : ℕ) (q : PageWords) → k < many → slice_get pages k ≡ Some q → slice_index table q.page ≢ 0
  pub none : (p : ℕ) → slice_index table p ≢ 0 → (k : ℕ) × (q : PageWords) × (k < many) × (slice_get pages k ≡ Some q) × (q.page ≡ p)
  pub words_are : stores.tells → (k : ℕ) (q : PageWords) → k < many → slice_get pages k ≡ Some q → stores.words new (slice_index table q.page) ≡ q.words
  pub taken : TakesBlocks stores many table old new

-- the blocks of the first so many pages are given back: what is held now was held, and is none of them
pub record HasGivenBack {B : Type 0} (stores : Ghosts B) (pages : List PageWords) (many : ℕ) (table : List ℕ) (old new : B) : Type 0 where
  pub was : (n : ℕ) → stores.held new n ≡ true → stores.held old n ≡ true
  pub gone : (n k : ℕ) (q : PageWords) → k < many → slice_get pages k ≡ Some q → n ≡ slice_index table q.page → stores.held new n ≡ false
  pub others : (n : ℕ) → ((k : ℕ) (q : PageWords) → k < many → slice_get pages k ≡ Some q → n ≢ slice_index table q.page) → stores.held new n ≡ stores.held old n
