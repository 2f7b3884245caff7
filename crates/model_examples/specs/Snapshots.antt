-- A worked run: a locus takes a snapshot of its container, which counts only once the locus is on record too.
use Rattle.std.specs.Prelude.{◌==◌, ℕ, true, List, [], ◌∷◌, None, Some, replicate, codes, if◌then◌else◌, map}
use Rattle.base_types.specs.declared.histories.Answer.TheVariants.{Reply as Replied}
use Rattle.base_types.specs.declared.histories.Entry.{Entry}
use Rattle.base_types.specs.declared.histories.Event.TheVariants.{Snap as SnapEvent, Step}
use Rattle.base_types.specs.declared.histories.Touch.{Touch}
use Rattle.base_types.specs.declared.instructions.Condition.TheVariants.{Running}
use Rattle.base_types.specs.declared.instructions.Instr.TheVariants.{Snap, Halt}
use Rattle.base_types.specs.declared.instructions.Reply.TheVariants.{Ok}
use Rattle.model_run_laws.specs.model_kernel.Choices.{Commit}
use Rattle.model_run_laws.specs.model_kernel.Histories.{Policy, mark}
use Rattle.model_run_laws.specs.model_kernel.Refusals.{rights_with}
use Rattle.model_run_laws.specs.model_kernel.Scripts.{Script}
use Rattle.model_run_laws.specs.model_kernel.State.{AtlasCell, AtlasState, Cell, ContainerCell, ContainerState, KernelState, LocusCell, LocusState, NotBorn, Supply}

abbrev pub no_words : Supply
no_words tag page place = 0

-- each written entity is to be recorded at once
abbrev pub always : Policy
always every since = true

-- nothing is to be born
abbrev pub no_tables : Script
no_tables = record { steps = 100; order = []; containers = []; loci = [] }

abbrev pub one_container_one_locus : AtlasState
one_container_one_locus = record { containers = codes "box" ∷ []; loci = codes "keeper" ∷ []; edges = λ _ _. 0 }

abbrev pub box : ContainerState
box = record { pages = 1; tag = 0; every = 0; entry = None; code = []; regions = []; caps = replicate 32 None; words = λ _. 0 }

-- it takes a snapshot of the container that the capability in its first slot names
abbrev pub keeper : LocusState
keeper = record {
  registers = replicate 8 0;
  place = 0;
  code = Snap 0 ∷ Halt ∷ [];
  host = 1;
  chain = [];
  privates = [];
  caps = Some (record { entity = 1; rights = rights_with 32 }) ∷ replicate 31 None;
  walk = None;
  condition = Running;
  every = 0;
  printed = 0;
}

abbrev pub cell_at : ℕ → Cell
cell_at x = if x == 0 then AtlasCell one_container_one_locus else if x == 1 then ContainerCell box else if x == 41 then LocusCell keeper else NotBorn

abbrev pub version_at : ℕ → ℕ
version_at x = if x == 0 then 2 else if x == 1 then 1 else if x == 41 then 1 else 0

-- all are on record, each by itself
abbrev pub recorded : KernelState
recorded = λ x. record { cell = cell_at x; version = version_at x; stamp = λ y. if x == y then version_at x else 0 }

-- ENTRIES

abbrev pub wrote : ℕ → ℕ → Touch
wrote entity version = record { version = version; entity = entity; wrote = true }

-- the snap writes what it names, and the locus
abbrev pub asks : Entry
asks = record { event = Step; actor = 41; touched = wrote 1 2 ∷ wrote 41 2 ∷ []; version = 0; answer = Replied Ok }

abbrev pub container_recorded : Entry
container_recorded = mark SnapEvent 1 2

abbrev pub locus_recorded : Entry
locus_recorded = mark SnapEvent 41 2

abbrev pub one_snapshot : List Entry
one_snapshot = asks ∷ container_recorded ∷ []

abbrev pub both_snapshots : List Entry
both_snapshots = asks ∷ container_recorded ∷ locus_recorded ∷ []

-- VERSIONS

abbrev pub entities_and_versions : List Commit → List (ℕ × ℕ)
entities_and_versions cs = map (λ (c : Commit). (c.entity, c.version)) cs

-- the versions that the run has reached
abbrev pub reached : ℕ → ℕ
reached x = if x == 0 then 2 else if x == 1 then 2 else if x == 41 then 2 else 0
