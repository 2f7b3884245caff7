-- Whose the blocks of a new record are.
use Rattle.std.specs.Prelude.{◌≡◌, ℕ, ◌≤◌, ◌<◌, true, false, List, Contains}
use Rattle.store_books.specs.image_facts.Bodies.{blob_blocks}
use Rattle.store_books.specs.image_facts.Layout.{pool_at}
use Rattle.store_books.specs.image_meaning.Describing.{HasPage}
use Rattle.store_books.specs.image_meaning.Stores.{Kept}
use Rattle.store_books.specs.Books.{Books, is_used}
use Rattle.store_books.specs.Owning.{NamesPage}

-- Its pages are of its entity's working table, in the pool, and the blocks of its blob weren't in use.
pub record IsApartNew (b : Books) (tables : ℕ → List ℕ) (new : Kept) : Type 0 where
  pub pages : (n : ℕ) → HasPage new.pages n → NamesPage (tables new.rec.entity) n
  pub pool : (n : ℕ) → b.held n ≡ true → (pool_at ≤ n) × (n < b.count)
  pub fresh : (n : ℕ) → Contains (blob_blocks new.rec) n → is_used b n ≡ false
