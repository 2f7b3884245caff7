-- A worked run: the one that follows the run whose snapshot was abandoned. It begins from the state of that run's cut, and gives birth to
-- a locus in the container, whose version 2 is used again.
use Rattle.std.specs.Prelude.{◌==◌, ℕ, List, [], ◌∷◌, None, Some, codes, replicate, if◌then◌else◌}
use Rattle.base_types.specs.declared.histories.Answer.TheVariants.{Quiet}
use Rattle.base_types.specs.declared.histories.Entry.{Entry}
use Rattle.base_types.specs.declared.histories.Event.TheVariants.{Birth, Stable}
use Rattle.base_types.specs.declared.instructions.Condition.TheVariants.{Running}
use Rattle.model_run_laws.specs.model_kernel.Changes.{changed}
use Rattle.model_run_laws.specs.model_kernel.Histories.{Run, after_birth, mark, noting, owing_births, start_run}
use Rattle.model_run_laws.specs.model_kernel.Scripts.{ContainerTable, LocusTable, Script}
use Rattle.model_run_laws.specs.model_kernel.State.{AtlasCell, AtlasState, ContainerCell, KernelState, LocusCell, LocusState}
use Rattle.model_examples.specs.Snapshots.{box, one_container_one_locus, recorded, wrote}

-- the container is there already
abbrev pub box_table : ContainerTable
box_table = record { name = codes "box"; pages = 1; tag = 0; every = 0; code = []; entry = None; regions = []; caps = [] }

abbrev pub helper_table : LocusTable
helper_table = record { name = codes "helper"; host = codes "box"; at = 0; every = 0; caps = [] }

abbrev pub with_helper : Script
with_helper = record { steps = 100; order = []; containers = box_table ∷ []; loci = helper_table ∷ [] }

abbrev pub helper : LocusState
helper = record { registers = replicate 8 0; place = 0; code = []; host = 1; chain = []; privates = []; caps = replicate 32 None; walk = None; condition = Running; every = 0; printed = 0 }

abbrev pub two_loci : AtlasState
two_loci = record one_container_one_locus { loci = codes "keeper" ∷ codes "helper" ∷ [] }

-- behind the birth
abbrev pub with_newborn : KernelState
with_newborn = changed recorded (record { entity = 0; new = Some (AtlasCell two_loci) } ∷ record { entity = 1; new = Some (ContainerCell box) } ∷ record { entity = 42; new = Some (LocusCell helper) } ∷ [])

abbrev pub bears : Entry
bears = record { event = Birth; actor = 42; touched = wrote 0 3 ∷ wrote 1 2 ∷ wrote 42 1 ∷ []; version = 0; answer = Quiet }

abbrev pub second_run : List Entry
second_run = bears ∷ mark Stable 0 0 ∷ []

abbrev pub behind_birth : Run
behind_birth = noting (owing_births with_helper (after_birth (start_run recorded) bears with_newborn))

-- the versions that the second run's cut gives
abbrev pub chosen_again : ℕ → ℕ
chosen_again x = if x == 0 then 3 else if x == 1 then 2 else if x == 41 then 1 else if x == 42 then 1 else 0
