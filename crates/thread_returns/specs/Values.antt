-- Values that came back.
use Rattle.std.specs.Prelude.{◌≡◌, ℕ, true, List, Option, Some, slice_get}
use Rattle.thread_history.specs.Rules.{AllDiffer, is_among}
use Rattle.thread_ties.specs.Sides.{AllWithin, Ending, numbers_of}

-- those that came back are of different numbers, each of which has a value, and stand at their numbers
pub record AreBack {V : Type 0} (e : Ending V) (places : List (Option V)) : Type 0 where
  pub differ : AllDiffer (numbers_of e.back)
  pub within : AllWithin e.values e.back
  pub stand : (k : ℕ) → is_among k (numbers_of e.back) ≡ true → slice_get places k ≡ Some (slice_get e.values k)
