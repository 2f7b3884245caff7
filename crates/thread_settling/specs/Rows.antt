-- All cells of a kernel, each under a lock of its own, and all of them lent.
use Rattle.std.specs.Prelude.{◌≡◌, ℕ, List, length, map, Some, slice_get}
use Rattle.base_types.specs.declared.histories.Entry.{Entry}
use Rattle.thread_commits.specs.kernel_commit_facts.cell_states.declared.cells.Cell.{Cell}
use Rattle.thread_commits.specs.kernel_commit_facts.Parts.{Parts}
use Rattle.thread_cells.specs.Locked.{Keeping}
use Rattle.thread_history.specs.Sides.{Side}
use Rattle.thread_ties.specs.Rules.{Shown}

-- ALL 64 ARE LENT, in ascending number
pub record IsRow (ks : List Keeping) : Type 0 where
  pub len : length ks ≡ 64
  pub each : (i : ℕ) (k : Keeping) → slice_get ks i ≡ Some k → k.number ≡ i

-- their numbers, and the histories that they know
abbrev pub numbers_of : List Keeping → List ℕ
numbers_of ks = map (λ k. k.number) ks

abbrev pub known_of : List Keeping → List (List Entry)
known_of ks = map (λ k. k.known) ks

-- the same cells, each knowing the same history
pub record AreSameSeats (olds news : List Keeping) : Type 0 where
  pub numbers : numbers_of news ≡ numbers_of olds
  pub known : known_of news ≡ known_of olds

-- each may be let go beside these parts, by the entries that its share knows
abbrev pub AllFit : {D : Type 0} → (List Entry → Parts D → Type 0) → List Keeping → Parts D → Type 0
AllFit fits ks p = (i : ℕ) (k : Keeping) → slice_get ks i ≡ Some k → fits k.known p

-- a cell with its own share and its own fragment
pub record IsBeside (c : Cell) (s : Side Entry) (f : Shown Cell) : Type 0 where
  pub share : s.number ≡ c.clock.entity
  pub fragment : f.number ≡ c.clock.entity
  pub value : f.value ≡ Some c

-- each cell with its own
pub record AreBeside (cs : List Cell) (ss : List (Side Entry)) (fs : List (Shown Cell)) : Type 0 where
  pub shares : length ss ≡ length cs
  pub fragments : length fs ≡ length cs
  pub each : (i : ℕ) (c : Cell) (s : Side Entry) (f : Shown Cell) → slice_get cs i ≡ Some c → slice_get ss i ≡ Some s → slice_get fs i ≡ Some f → IsBeside c s f
