-- What callers see of the board's table.
use Rattle.std.specs.Prelude.{ℕ, List}
use Rattle.atomic_table.specs.Seated.{TableId}
use Rattle.thread_board.specs.declared.views.PassItem.{PassItem}
use Rattle.thread_history.specs.Sides.{Log}

-- a table without a name: the names of its words and of its ledger
pub record Opening : Type 0 where
  pub slate : TableId
  pub ledger : ℕ

-- all items, the known commits, and the passes that came back
pub record Noting (C T : Type 0) : Type 0 where
  pub items : List (PassItem T)
  pub commits : List C
  pub back : List ℕ

-- a pass: its number, its items, and how many more have room
pub record PassSeen (T : Type 0) : Type 0 where
  pub number : ℕ
  pub items : List (PassItem T)
  pub room : ℕ

-- a list of records, and the lines of the side beside it
pub record Kept (C : Type 0) : Type 0 where
  pub records : List C
  pub lines : List C

-- a history beside the side that writes items
pub record Written (C T H : Type 0) : Type 0 where
  pub log : Log H
  pub noting : Noting C T
