-- How often records name a block.
use Rattle.std.specs.Prelude.{◌≡◌, ◌≢◌, ℕ, ◌+◌, ◌<◌, ◌≤◌, Bool, not, ◌&&◌, ◌==◌, List, All, length, count_by, slice_index}
use Rattle.std.specs.List.{sum_by}
use Rattle.log_reading.specs.image_facts.Bodies.{blob_blocks}
use Rattle.log_reading.specs.image_facts.Layout.{most_length}
use Rattle.data_blocks.specs.Ledger.{Ledger}
use Rattle.store_facts.specs.Shelves.{is_from}
use Rattle.page_words.specs.store_books.Books.{Logged}

-- this is the block n, and not 0, which stands for none
abbrev pub is_use : ℕ → ℕ → Bool
is_use n m = not (m == 0) && (m == n)

-- how often the block stands in a list, of which zeros stand for none
abbrev pub times : ℕ → List ℕ → ℕ
times n blocks = count_by (is_use n) blocks

-- a block of a range, or 0 for none
abbrev pub IsPlace : ℕ → ℕ → ℕ → Type 0
IsPlace first end n = n ≢ 0 → (first ≤ n) × (n < end)

-- each block n is named so many times more, and nothing else is another
pub record IsRaised (more : ℕ → ℕ) (old new : Ledger) : Type 0 where
  pub same_first : new.first ≡ old.first
  pub same_end : new.end ≡ old.end
  pub same_held : new.held ≡ old.held
  pub same_all : new.all_named ≡ old.all_named
  pub same_size : length new.names ≡ length old.names
  pub counts : (n : ℕ) → slice_index new.names n ≡ slice_index old.names n + more n

-- each of these blocks is named once more
abbrev pub HasNamed : List ℕ → Ledger → Ledger → Type 0
HasNamed blocks old new = IsRaised (λ n. times n blocks) old new

-- RECORDS

-- how often a record names a block, by its blob and its pages, and how often records do
abbrev pub uses_in : ℕ → Logged → ℕ
uses_in n l = times n (blob_blocks l.rec) + times n l.table

abbrev pub uses : ℕ → List Logged → ℕ
uses n ls = sum_by (uses_in n) ls

-- a record with a blob of a length that there can be, and with blocks of a range
pub record IsPlaced (first end : ℕ) (l : Logged) : Type 0 where
  pub length_is : l.rec.length ≤ most_length
  pub blob : All (IsPlace first end) (blob_blocks l.rec)
  pub table : All (IsPlace first end) l.table
  pub pages : length l.table ≡ 256

-- the record is below a choice
abbrev pub is_below : (ℕ → ℕ) → Logged → Bool
is_below cut l = not (is_from cut l)

-- the ledger counts how often these records name each block
abbrev pub AreCounted : Ledger → List Logged → Type 0
AreCounted ledger ls = (n : ℕ) → slice_index ledger.names n ≡ uses n ls
