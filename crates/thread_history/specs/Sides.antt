-- What callers see of a chronicle and of a share.
use Rattle.std.specs.Prelude.{ℕ, zero, suc, List, [], ◌∷◌, ◌++◌}
use Rattle.atomic_table.specs.Seated.{TableId}

-- the name of no table
abbrev pub no_table : TableId
no_table = record { words = 0; slots = 0; views_name = 0; atom = 0; block = 0; offset = 0; slot_names = [] }

-- a chronicle without a name: the name of its table, the kept items, and how many more have room
pub record Opening (A : Type 0) : Type 0 where
  pub table : TableId
  pub kept : List A
  pub room : ℕ

-- a history's table without a name, and the kept items
pub record Beginning (A : Type 0) : Type 0 where
  pub table : TableId
  pub kept : List A

-- the items after the kept ones, and how many more have room
pub record Log (A : Type 0) : Type 0 where
  pub since : List A
  pub room : ℕ

-- a share: its number, and the items after the kept ones that it knows
pub record Side (A : Type 0) : Type 0 where
  pub number : ℕ
  pub since : List A

-- the shares of the first n numbers, which know nothing new
abbrev pub sides_upto : {A : Type 0} → ℕ → List (Side A)
sides_upto zero = []
sides_upto (suc n) = sides_upto n ++ record { number = n; since = [] } ∷ []

-- a history to which shares come back
pub record Ending (A : Type 0) : Type 0 where
  pub since : List A
  pub back : List ℕ
