-- Blocks of pages that working page tables name.
use Rattle.std.specs.Prelude.{◌≡◌, ℕ, Bool, ◌||◌, length}
use Rattle.std.specs.List.{list_any}
use Rattle.data_blocks.specs.Ledger.{Ledger, is_held}
use Rattle.store_facts.specs.Naming.{is_use}
use Rattle.page_words.specs.store_books.Books.{Logged}

-- a page of the record has the block
abbrev pub names_page : ℕ → Logged → Bool
names_page n l = list_any (is_use n) l.table

-- these blocks are held too, and nothing else is another
pub record HasHeld (more : ℕ → Bool) (old new : Ledger) : Type 0 where
  pub only : new ≡ record old { held = new.held }
  pub same_size : length new.held ≡ length old.held
  pub held : (n : ℕ) → is_held new n ≡ (is_held old n || more n)
