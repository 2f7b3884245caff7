-- Counts that go up by one, and those that rose.
use Rattle.std.proofs.Common.{◌≤◌, ◌<◌, ◌-◌, ◌+◌, ◌^◌, ℕ, inl, inr, arith}
use Rattle.std.proofs.lemmas.Bool.{cases_lt}
use Rattle.edge_disk.specs.Counts.{Rose}
use Rattle.edge_disk.specs.Disk.{Began, Ticks}

-- a count that goes up doesn't fall
pub Ticks-later : (before now : ℕ) → Ticks before now → before ≤ now
Ticks-later before now ticks = elim (cases_lt before (2 ^ 64 - 1)) [
  | inl more ↦ omega (arith, ticks.one_more more)
  | inr end ↦ omega (arith, ticks.at_end end)
]

-- nor does it skip a number
pub Ticks-one : (before now : ℕ) → Ticks before now → now ≤ before + 1
Ticks-one before now ticks = elim (cases_lt before (2 ^ 64 - 1)) [
  | inl more ↦ omega (arith, ticks.one_more more)
  | inr end ↦ omega (arith, ticks.at_end end)
]

-- one call more
pub Began-tick : (calls before mid now : ℕ) → Began calls before mid → Ticks mid now → Began (calls + 1) before now
Began-tick calls before mid now began ticks =
    let later = Ticks-later mid now ticks in
    record {
      later = omega (arith, began.later, later);
      at_most = omega (arith, began.at_most, Ticks-one mid now ticks);
      all = λ below.
          let inside : mid < 2 ^ 64 - 1 = omega (arith, below, later) in
          omega (arith, began.all inside, ticks.one_more inside);
    }

-- one that rose later rose from before, too
pub Rose-before : (before mid now : ℕ) → before ≤ mid → mid ≤ now → Rose mid now → Rose before now
Rose-before before mid now one two rose = λ short. elim (cases_lt mid (2 ^ 64 - 1)) as (λ _. before < now) [
  | inl low ↦ (let more = rose low in omega (arith, more, one))
  | inr at ↦ omega (arith, at, two, short)
]
