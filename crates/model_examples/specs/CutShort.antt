-- A worked run: a locus stores a word and stabilises; the Stable is cut short behind the first of its two records.
use Rattle.std.specs.Prelude.{◌==◌, ℕ, List, [], ◌∷◌, None, Some, replicate, if◌then◌else◌}
use Rattle.base_types.specs.declared.histories.Answer.TheVariants.{Reply as Replied}
use Rattle.base_types.specs.declared.histories.Entry.{Entry}
use Rattle.base_types.specs.declared.histories.Event.TheVariants.{Snap as SnapEvent, Step, Tried}
use Rattle.base_types.specs.declared.instructions.Instr.TheVariants.{Halt, Stabilise, Store}
use Rattle.base_types.specs.declared.instructions.Reply.TheVariants.{Ok}
use Rattle.model_run_laws.specs.model_kernel.Changes.{changed}
use Rattle.model_run_laws.specs.model_kernel.Histories.{Run, mark, start_run}
use Rattle.model_run_laws.specs.model_kernel.Refusals.{rights_with}
use Rattle.model_run_laws.specs.model_kernel.State.{ContainerCell, ContainerState, KernelState, LocusCell, LocusState}
use Rattle.model_run_laws.specs.model_kernel.Words.{put}
use Rattle.model_examples.specs.Snapshots.{box, keeper, wrote}
use Rattle.model_examples.specs.Places.{snapped, stepped, world}

-- at this place of its code, with a capability on the atlas to stabilise
abbrev pub saver : ℕ → LocusState
saver place = record keeper {
  place = place;
  code = Store 0 1 ∷ Stabilise 0 ∷ Halt ∷ [];
  caps = Some (record { entity = 0; rights = rights_with 128 }) ∷ replicate 31 None;
}

abbrev pub stored_box : ContainerState
stored_box = record box { words = put (λ _. 0) 0 0 }

-- STATES: at the beginning, behind the store, and behind the stabilise

abbrev pub first : KernelState
first = world box (saver 0)

abbrev pub second : KernelState
second = changed first (record { entity = 1; new = Some (ContainerCell stored_box) } ∷ record { entity = 41; new = Some (LocusCell (saver 1)) } ∷ [])

abbrev pub third : KernelState
third = changed second (record { entity = 41; new = Some (LocusCell (saver 2)) } ∷ [])

-- ENTRIES

abbrev pub stores : Entry
stores = record { event = Step; actor = 41; touched = wrote 1 2 ∷ wrote 41 2 ∷ []; version = 0; answer = Replied Ok }

abbrev pub stabilises : Entry
stabilises = record { event = Step; actor = 41; touched = wrote 41 3 ∷ []; version = 0; answer = Replied Ok }

-- the record of the container, which comes first, and that of the locus, which may have been completed or not
abbrev pub first_record : Entry
first_record = mark SnapEvent 1 2

abbrev pub second_tried : Entry
second_tried = mark Tried 41 3

abbrev pub two_steps : List Entry
two_steps = stores ∷ stabilises ∷ []

abbrev pub with_first_record : List Entry
with_first_record = stores ∷ stabilises ∷ first_record ∷ []

abbrev pub stopped : List Entry
stopped = stores ∷ stabilises ∷ first_record ∷ second_tried ∷ []

-- WHAT THE RULES LOOK AT behind the store, the stabilise and the first record

abbrev pub behind_store : Run
behind_store = stepped (start_run first) stores (saver 0) second

abbrev pub behind_stabilise : Run
behind_stabilise = stepped behind_store stabilises (saver 1) third

abbrev pub behind_record : Run
behind_record = snapped behind_stabilise 1

-- the versions with the second record
abbrev pub reached_by_both : ℕ → ℕ
reached_by_both x = if x == 0 then 2 else if x == 1 then 2 else if x == 41 then 3 else 0
