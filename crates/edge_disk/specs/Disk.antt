-- What the calls of a disk do to its blocks, to its counts, and to what a stop of the machine may leave.
-- The words take a disk's ghost members: its clock, what a stop now may leave, and what stops since a moment might have left.
use Rattle.std.specs.Prelude.{◌≡◌, ◌⊎◌, ◌≤◌, ◌<◌, ℕ, ◌+◌, ◌-◌, ◌^◌, Result, OnErr}
use Rattle.edge_disk.specs.Counts.{Rose}
use Rattle.edge_disk.specs.Image.{Image, SameOutside}

-- a count of 64 bits goes up by one; at its end it stands still
pub record Ticks (before now : ℕ) : Type 0 where
  pub one_more : before < 2 ^ 64 - 1 → now ≡ before + 1
  pub at_end : 2 ^ 64 - 1 ≤ before → now ≡ before

-- so many calls were begun, for each of which a count of 64 bits goes up by one
pub record Began (calls before now : ℕ) : Type 0 where
  pub later : before ≤ now
  pub at_most : now ≤ before + calls
  -- short of its end it missed none
  pub all : now < 2 ^ 64 - 1 → now ≡ before + calls

-- the count of faults doesn't fall, and it rose where the call failed
pub record HasCause {T E : Type 0} (before now : ℕ) (result : Result T E) : Type 0 where
  pub later : before ≤ now
  pub failed : OnErr result (Rose before now)

-- a stop may leave this image and no other
abbrev pub Only : Image → (Image → Type 0) → Type 0
Only image outcomes = (c : Image) → outcomes c → c ≡ image

-- a stop may leave nothing that it couldn't leave before
abbrev pub LeavesNoMore : {D : Type 0} → (D → Image → Type 0) → D → D → Type 0
LeavesNoMore may_leave old new = (c : Image) → may_leave new c → may_leave old c

-- a stop may leave what it could leave before, with any bytes in this block
abbrev pub Tears : {D : Type 0} → (D → Image → Type 0) → ℕ → D → D → Type 0
Tears may_leave at old new = (c : Image) → may_leave new c → (d : Image) × may_leave old d × SameOutside (λ n. n ≡ at) d c

-- Time goes on: a stop since t might have left what it might have left before, or what it may leave now.
pub record Elapses {D : Type 0} (clock : D → ℕ) (may_leave : D → Image → Type 0) (left_since : D → ℕ → Image → Type 0) (old new : D) : Type 0 where
  pub later : clock old ≤ clock new
  pub nothing_else : (t : ℕ) (c : Image) → t ≤ clock old → left_since new t c → left_since old t c ⊎ may_leave new c
  pub keeps : (t : ℕ) (c : Image) → t ≤ clock old → left_since old t c → left_since new t c
