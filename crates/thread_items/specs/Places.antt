-- What came of a look, and how many places its item covers.
use Rattle.std.specs.Prelude.{ℕ, Ok, Err, Result, Option, None, Some}
use Rattle.std.specs.declared.snapshot.Snapshot.{Snapshot}
use Rattle.base_types.specs.declared.histories.Entry.{Entry}
use Rattle.thread_desk_stables.specs.kernel_core_facts.kernel_invariant.declared.stopping.Stopped.{Stopped}
use Rattle.thread_desk_stables.specs.kernel_core_facts.declared.looked.Looked.{Looked}
use Rattle.thread_desk_stables.specs.kernel_core_facts.declared.looked.Looked.TheVariants as looked
use Rattle.thread_items.specs.declared.items.Came.{Came}
use Rattle.thread_items.specs.declared.items.Came.TheVariants.{Made, Idle, Stopped as StoppedFor, StoppedBehind}

-- its step, if it made one
abbrev pub steps_in : Came → ℕ
steps_in (Made e) = 1
steps_in (Idle why) = 0
steps_in (StoppedFor why) = 0
steps_in (StoppedBehind e why) = 1

-- the entry of a step, as an item has it
abbrev pub stood : Entry → Snapshot Entry
stood e = record { marker = record {}; value = e }

-- by what the look answered, and the entry at its place, if there is one
abbrev pub came_by : Result Looked Stopped → Option Entry → Came
came_by (Ok (looked.Made m)) o = Made (stood m.entry)
came_by (Ok (looked.Idle why)) o = Idle why
came_by (Err why) (Some e) = StoppedBehind (stood e) why
came_by (Err why) None = StoppedFor why

-- the entry of its step, if it made one
abbrev pub entry_in : Came → Option Entry
entry_in (Made e) = Some e.value
entry_in (Idle why) = None
entry_in (StoppedFor why) = None
entry_in (StoppedBehind e why) = Some e.value
