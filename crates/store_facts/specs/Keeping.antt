-- Which records of a log are kept, and the ledger that counts their blocks.
use Rattle.std.specs.Prelude.{◌≡◌, ℕ, List, All, length, filter}
use Rattle.data_cut_facts.specs.Records.{IsAscending}
use Rattle.data_cuts.specs.model_cut_laws.Agreeing.{nothing}
use Rattle.data_cuts.specs.model_cut_laws.Records.{commits_of}
use Rattle.page_store.specs.model_kernel.Choices.{IsGreatest, IsNarrow}
use Rattle.data_blocks.specs.Ledger.{Ledger}
use Rattle.page_words.specs.store_books.Books.{Logged, logged_recs}
use Rattle.store_facts.specs.Naming.{AreCounted, IsPlaced}
use Rattle.store_facts.specs.Shelves.{is_from}

-- these are the records of the log at or above a choice, which is the greatest closed one; versions of an entity ascend
pub record AreKept (log these : List Logged) (cut : ℕ → ℕ) : Type 0 where
  pub kept : these ≡ filter (is_from cut) log
  pub greatest : IsGreatest nothing (commits_of (logged_recs log)) cut
  pub ascending : IsAscending (logged_recs log)
  pub narrow : IsNarrow (commits_of (logged_recs log))

-- the ledger counts how often these records name each block, all of them in its range
pub record AreListed (ledger : Ledger) (kept : List Logged) : Type 0 where
  pub placed : All (IsPlaced ledger.first ledger.end) kept
  pub counted : AreCounted ledger kept

-- only the counts of a ledger are others
pub record HasRecounted (old new : Ledger) : Type 0 where
  pub only : new ≡ record old { names = new.names }
  pub same_size : length new.names ≡ length old.names
