-- Versions and vector clocks of the entities that an event touches, before it and after it.
use Rattle.std.specs.Prelude.{◌≡◌, ℕ, List, Some, None}
use Rattle.base_types.specs.declared.histories.Answer.{Answer}
use Rattle.base_types.specs.declared.histories.Entry.{Entry}
use Rattle.base_types.specs.declared.histories.Event.{Event}
use Rattle.model_kernel.specs.Changes.{Access, changed, entry_of}
use Rattle.model_kernel.specs.State.{Cell, KernelState}
use Rattle.data_stamps.specs.Stamps.{component}
use Rattle.cell_clocks.specs.declared.Clock.{Clock}

-- the state has this version and this vector clock
pub record HasClock (w : KernelState) (c : Clock) : Type 0 where
  pub version : (w c.entity).version ≡ c.version
  pub stamp : (y : ℕ) → (w c.entity).stamp y ≡ component c.stamp y

-- the entity gets this cell
abbrev pub writing : ℕ → Cell → Access
writing x k = record { entity = x; new = Some k }

-- the entity is only read
abbrev pub reading : ℕ → Access
reading x = record { entity = x; new = None }

-- the entry of an event that makes these accesses in the state, and clocks that the state has after it
pub record CarriesOne (event : Event) (actor : ℕ) (answer : Answer) (w : KernelState) (accesses : List Access) (e : Entry) (a : Clock) : Type 0 where
  pub entry : e ≡ entry_of w event actor accesses answer
  pub first : HasClock (changed w accesses) a

pub record CarriesTwo (event : Event) (actor : ℕ) (answer : Answer) (w : KernelState) (accesses : List Access) (e : Entry) (a b : Clock) : Type 0 where
  pub entry : e ≡ entry_of w event actor accesses answer
  pub first : HasClock (changed w accesses) a
  pub second : HasClock (changed w accesses) b

pub record CarriesThree (event : Event) (actor : ℕ) (answer : Answer) (w : KernelState) (accesses : List Access) (e : Entry) (a b c : Clock) : Type 0 where
  pub entry : e ≡ entry_of w event actor accesses answer
  pub first : HasClock (changed w accesses) a
  pub second : HasClock (changed w accesses) b
  pub third : HasClock (changed w accesses) c
