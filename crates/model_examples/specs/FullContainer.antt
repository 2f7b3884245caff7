-- A worked run: a locus stores five times into a container that wishes for a record of each version, until the container is full.
use Rattle.std.specs.Prelude.{◌==◌, ◌+◌, ℕ, zero, suc, false, List, [], ◌∷◌, if◌then◌else◌, nat_le}
use Rattle.base_types.specs.declared.histories.Answer.TheVariants.{Reply as Replied}
use Rattle.base_types.specs.declared.histories.Entry.{Entry}
use Rattle.base_types.specs.declared.histories.Event.TheVariants.{Snap as SnapEvent, Step}
use Rattle.base_types.specs.declared.instructions.Instr.TheVariants.{Store}
use Rattle.base_types.specs.declared.instructions.Reply.TheVariants.{Ok}
use Rattle.std.specs.Prelude.{Some}
use Rattle.model_run_laws.specs.model_kernel.Changes.{changed}
use Rattle.model_run_laws.specs.model_kernel.Histories.{Policy, Run, mark, start_run}
use Rattle.model_run_laws.specs.model_kernel.State.{ContainerCell, ContainerState, KernelState, LocusCell, LocusState}
use Rattle.model_run_laws.specs.model_kernel.Words.{put}
use Rattle.model_examples.specs.Snapshots.{box, keeper, wrote}
use Rattle.model_examples.specs.Places.{snapped, stepped, world}

-- a record for each so many versions, and none by itself where that is 0
abbrev pub each_so_many : Policy
each_so_many every since = if every == 0 then false else nat_le every since

-- at this place of its code; nobody wishes for a record of it
abbrev pub writer : ℕ → LocusState
writer place = record keeper { place = place; code = Store 0 1 ∷ Store 0 1 ∷ Store 0 1 ∷ Store 0 1 ∷ Store 0 1 ∷ [] }

-- behind so many stores
abbrev pub words_behind : ℕ → ℕ → ℕ
words_behind zero = λ _. 0
words_behind (suc n) = put (words_behind n) 0 0

abbrev pub eager_box : ℕ → ContainerState
eager_box n = record box { every = 1; words = words_behind n }

-- the state behind so many stores
abbrev pub behind : ℕ → KernelState
behind zero = world (eager_box 0) (writer 0)
behind (suc n) = changed (behind n) (record { entity = 1; new = Some (ContainerCell (eager_box (suc n))) } ∷ record { entity = 41; new = Some (LocusCell (writer (suc n))) } ∷ [])

-- ENTRIES

-- the store that gives both this version
abbrev pub stores : ℕ → Entry
stores version = record { event = Step; actor = 41; touched = wrote 1 version ∷ wrote 41 version ∷ []; version = 0; answer = Replied Ok }

-- the record of the container at this version
abbrev pub recorded_at : ℕ → Entry
recorded_at version = mark SnapEvent 1 version

abbrev pub until_full : List Entry
until_full = stores 2 ∷ recorded_at 2 ∷ stores 3 ∷ recorded_at 3 ∷ stores 4 ∷ recorded_at 4 ∷ []

abbrev pub one_store_more : List Entry
one_store_more = stores 2 ∷ recorded_at 2 ∷ stores 3 ∷ recorded_at 3 ∷ stores 4 ∷ recorded_at 4 ∷ stores 5 ∷ []

abbrev pub two_stores_more : List Entry
two_stores_more = stores 2 ∷ recorded_at 2 ∷ stores 3 ∷ recorded_at 3 ∷ stores 4 ∷ recorded_at 4 ∷ stores 5 ∷ stores 6 ∷ []

-- WHAT THE RULES LOOK AT behind each of them

abbrev pub begun : Run
begun = start_run (behind 0)

abbrev pub stored : Run → ℕ → Run
stored r n = stepped r (stores (n + 2)) (writer n) (behind (suc n))

abbrev pub place_1 : Run
place_1 = stored begun 0

abbrev pub place_2 : Run
place_2 = snapped place_1 1

abbrev pub place_3 : Run
place_3 = stored place_2 1

abbrev pub place_4 : Run
place_4 = snapped place_3 1

abbrev pub place_5 : Run
place_5 = stored place_4 2

abbrev pub place_6 : Run
place_6 = snapped place_5 1

abbrev pub place_7 : Run
place_7 = stored place_6 3

abbrev pub place_8 : Run
place_8 = stored place_7 4
