-- How an event changes the kernel's state: it reads and writes the cells of a few entities, and no other.
use Rattle.std.specs.Prelude.{ℕ, ◌+◌, ◌==◌, nat_lt, if◌then◌else◌, List, [], ◌∷◌, Option, Some, None, is_some, option_map, max}
use Rattle.base_types.specs.declared.histories.Answer.{Answer}
use Rattle.base_types.specs.declared.histories.Entry.{Entry}
use Rattle.base_types.specs.declared.histories.Event.{Event}
use Rattle.base_types.specs.declared.histories.Touch.{Touch}
use Rattle.model_kernel.specs.State.{Cell, EntityState, KernelState}

-- a touched entity, with its new cell where it is written
pub record Access : Type 0 where
  pub entity : ℕ
  pub new : Option Cell

-- what one event does
pub record Change : Type 0 where
  pub accesses : List Access
  pub answer : Answer

-- two accesses of one entity are one, and a write counts
abbrev pub merged : Access → Access → Access
merged a b = if is_some b.new then b else a

abbrev pub insert_access : Access → List Access → List Access
insert_access a [] = a ∷ []
insert_access a (b ∷ rest) = if nat_lt a.entity b.entity then a ∷ b ∷ rest else if a.entity == b.entity then merged a b ∷ rest else b ∷ insert_access a rest

-- in ascending order, each entity once
abbrev pub ordered : List Access → List Access
ordered [] = []
ordered (a ∷ accesses) = insert_access a (ordered accesses)

-- a written entity has the next version, and a read one keeps its own
abbrev pub touch_of : KernelState → Access → Touch
touch_of w a = record { version = if is_some a.new then (w a.entity).version + 1 else (w a.entity).version; entity = a.entity; wrote = is_some a.new }

abbrev pub touches_of : KernelState → List Access → List Touch
touches_of w [] = []
touches_of w (a ∷ accesses) = touch_of w a ∷ touches_of w accesses

-- the vector clock after the event: the greatest of the touched entities' clocks and of the versions that the entry carries
abbrev pub joined : KernelState → List Touch → ℕ → ℕ
joined w [] y = 0
joined w (t ∷ ts) y = max (max ((w t.entity).stamp y) (if t.entity == y then t.version else 0)) (joined w ts y)

abbrev pub access_at : List Access → ℕ → Option Access
access_at [] x = None
access_at (a ∷ accesses) x = if a.entity == x then Some a else access_at accesses x

abbrev pub written : EntityState → (ℕ → ℕ) → Option Cell → EntityState
written e stamp None = e
written e stamp (Some cell) = record { cell = cell; version = e.version + 1; stamp = stamp }

abbrev pub accessed : EntityState → (ℕ → ℕ) → Option Access → EntityState
accessed e stamp None = e
accessed e stamp (Some a) = written e stamp a.new

-- the state after a change: each written entity has its new cell, the next version and the joined clock
unfoldable pub changed : KernelState → List Access → KernelState
changed w accesses = λ x. accessed (w x) (joined w (touches_of w accesses)) (access_at accesses x)

abbrev pub entry_of : KernelState → Event → ℕ → List Access → Answer → Entry
entry_of w event actor accesses answer = record { event = event; actor = actor; touched = touches_of w accesses; version = 0; answer = answer }

abbrev pub carried_by : KernelState → Event → ℕ → List Access → Answer → Entry × KernelState
carried_by w event actor accesses answer = (entry_of w event actor accesses answer, changed w accesses)

-- the entry and the state of an event that makes the change
abbrev pub carried : KernelState → Event → ℕ → Change → Entry × KernelState
carried w event actor c = carried_by w event actor (ordered c.accesses) c.answer

-- an event: the actor and the change that it makes in a state, where it is defined
abbrev pub acts : Event → (KernelState → Option (ℕ × Change)) → KernelState → Option (Entry × KernelState)
acts event f w = option_map (λ c. carried w event c.0 c.1) (f w)
