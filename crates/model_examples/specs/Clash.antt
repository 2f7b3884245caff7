-- A script one of whose containers has the name of a locus that is there already.
use Rattle.std.specs.Prelude.{List, [], ◌∷◌, None, Some, codes, replicate}
use Rattle.base_types.specs.declared.histories.Answer.TheVariants.{Quiet}
use Rattle.base_types.specs.declared.histories.Entry.{Entry}
use Rattle.base_types.specs.declared.histories.Event.TheVariants.{Birth}
use Rattle.base_types.specs.declared.instructions.Condition.TheVariants.{Running}
use Rattle.model_run_laws.specs.model_kernel.Births.{with_edge}
use Rattle.model_run_laws.specs.model_kernel.Changes.{changed}
use Rattle.model_run_laws.specs.model_kernel.Outcomes.{supplied}
use Rattle.model_run_laws.specs.model_kernel.Refusals.{rights_with}
use Rattle.model_run_laws.specs.model_kernel.Scripts.{ContainerTable, RegionTable, Script}
use Rattle.model_run_laws.specs.model_kernel.State.{AtlasCell, AtlasState, ContainerCell, ContainerState, KernelState, LocusCell, LocusState, Text, empty_state, no_atlas}
use Rattle.model_examples.specs.Snapshots.{no_words, wrote}

abbrev pub plain_container : Text → List RegionTable → ContainerTable
plain_container name regions = record { name = name; pages = 1; tag = 0; every = 0; code = []; entry = None; regions = regions; caps = [] }

-- a container `h`, and in it a locus `a`
abbrev pub earlier_script : Script
earlier_script = record {
  steps = 1;
  order = [];
  containers = plain_container (codes "h") [] ∷ [];
  loci = record { name = codes "a"; host = codes "h"; at = 0; every = 0; caps = [] } ∷ [];
}

-- containers `a` and `b`, the second of which shows the first
abbrev pub clashing : Script
clashing = record {
  steps = 1;
  order = [];
  containers = plain_container (codes "a") [] ∷ plain_container (codes "b") (record { at = 0; target = codes "a"; from = 0; count = 1; rights = 1 } ∷ []) ∷ [];
  loci = [];
}

-- STATES behind the births of `h`, `a` and `b`

abbrev pub container_alone : ContainerState
container_alone = record { pages = 1; tag = 0; every = 0; entry = None; code = []; regions = []; caps = replicate 32 None; words = supplied no_words 0 }

abbrev pub locus_alone : LocusState
locus_alone = record { registers = replicate 8 0; place = 0; code = []; host = 1; chain = []; privates = []; caps = replicate 32 None; walk = None; condition = Running; every = 0; printed = 0 }

abbrev pub showing_locus : ContainerState
showing_locus = record container_alone { regions = record { at = 0; count = 1; target = 41; from = 0; rights = rights_with 1 } ∷ [] }

abbrev pub one_name : AtlasState
one_name = record no_atlas { containers = codes "h" ∷ [] }

abbrev pub two_names : AtlasState
two_names = record one_name { loci = codes "a" ∷ [] }

abbrev pub three_names : AtlasState
three_names = with_edge (record two_names { containers = codes "h" ∷ codes "b" ∷ [] }) 2 41

abbrev pub with_container : KernelState
with_container = changed empty_state (record { entity = 0; new = Some (AtlasCell one_name) } ∷ record { entity = 1; new = Some (ContainerCell container_alone) } ∷ [])

abbrev pub with_locus : KernelState
with_locus = changed with_container (record { entity = 0; new = Some (AtlasCell two_names) } ∷ record { entity = 1; new = Some (ContainerCell container_alone) } ∷ record { entity = 41; new = Some (LocusCell locus_alone) } ∷ [])

abbrev pub with_clash : KernelState
with_clash = changed with_locus (record { entity = 0; new = Some (AtlasCell three_names) } ∷ record { entity = 2; new = Some (ContainerCell showing_locus) } ∷ [])

-- ENTRIES

abbrev pub bears_h : Entry
bears_h = record { event = Birth; actor = 1; touched = wrote 0 1 ∷ wrote 1 1 ∷ []; version = 0; answer = Quiet }

abbrev pub bears_a : Entry
bears_a = record { event = Birth; actor = 41; touched = wrote 0 2 ∷ wrote 1 2 ∷ wrote 41 1 ∷ []; version = 0; answer = Quiet }

abbrev pub bears_b : Entry
bears_b = record { event = Birth; actor = 2; touched = wrote 0 3 ∷ wrote 2 1 ∷ []; version = 0; answer = Quiet }
