-- One step of a locus.
use Rattle.std.specs.Prelude.{ℕ, Bool, true, false, List, [], ◌∷◌, Option, Some, None, option_map}
use Rattle.base_types.specs.declared.histories.Entry.{Entry}
use Rattle.base_types.specs.declared.histories.Event.TheVariants.{Step}
use Rattle.base_types.specs.declared.instructions.Condition.{Condition}
use Rattle.base_types.specs.declared.instructions.Condition.TheVariants.{Running, Stopped, Halted}
use Rattle.model_kernel.specs.State.{Supply, AtlasState, LocusState, Cell, NotBorn, AtlasCell, ContainerCell, LocusCell, KernelState, no_atlas}
use Rattle.model_kernel.specs.Acts.{Act, wanted}
use Rattle.model_kernel.specs.Outcomes.{Outcome, outcome}
use Rattle.model_kernel.specs.Changes.{Access, Change, acts}

-- WHAT A STEP LOOKS AT

abbrev pub atlas_in : Cell → AtlasState
atlas_in (AtlasCell a) = a
atlas_in NotBorn = no_atlas
atlas_in (ContainerCell c) = no_atlas
atlas_in (LocusCell l) = no_atlas

abbrev pub seen_atlas : KernelState → Bool → AtlasState
seen_atlas w true = atlas_in (w 0).cell
seen_atlas w false = no_atlas

abbrev pub seen_other : KernelState → Option ℕ → Cell
seen_other w (Some x) = (w x).cell
seen_other w None = NotBorn

-- the outcome of an act, from the cells that the act touches and no other
abbrev pub outcome_in : Supply → LocusState → Act → KernelState → Outcome
outcome_in s l act w = outcome s l act (seen_atlas w act.atlas) (seen_other w act.other)

-- WHAT A STEP TOUCHES

abbrev pub with_atlas_access : Bool → AtlasState → List Access → List Access
with_atlas_access true a rest = record { entity = 0; new = Some (AtlasCell a) } ∷ rest
with_atlas_access false a rest = rest

abbrev pub with_other_access : Option ℕ → Option Cell → List Access → List Access
with_other_access None cell rest = rest
with_other_access (Some x) cell rest = record { entity = x; new = cell } ∷ rest

abbrev pub with_newborn_access : Option (ℕ × Cell) → List Access → List Access
with_newborn_access None rest = rest
with_newborn_access (Some b) rest = record { entity = b.0; new = Some b.1 } ∷ rest

abbrev pub accesses_of : ℕ → Act → Outcome → List Access
accesses_of me act o =
    with_atlas_access act.atlas o.atlas
    (with_other_access act.other o.other (with_newborn_access o.newborn (record { entity = me; new = Some (LocusCell o.locus) } ∷ [])))

abbrev pub change_by : ℕ → Act → Outcome → Change
change_by me act o = record { accesses = accesses_of me act o; answer = o.answer }

-- the change that a running locus makes
unfoldable pub change_of : Supply → KernelState → ℕ → LocusState → Change
change_of s w me l = change_by me (wanted me l) (outcome_in s l (wanted me l) w)

-- A STEP

abbrev pub if_running : LocusState → Condition → Option LocusState
if_running l Running = Some l
if_running l Stopped = None
if_running l Halted = None

-- the locus, if it is born and running
abbrev pub running : Cell → Option LocusState
running (LocusCell l) = if_running l l.condition
running NotBorn = None
running (AtlasCell a) = None
running (ContainerCell c) = None

abbrev pub numbered_change : Supply → ℕ → KernelState → LocusState → ℕ × Change
numbered_change s me w l = (me, change_of s w me l)

unfoldable pub step_change : Supply → ℕ → KernelState → Option (ℕ × Change)
step_change s me w = option_map (numbered_change s me w) (running (w me).cell)

-- the entry and the state of a step, where the locus is born and running
abbrev pub step : Supply → ℕ → KernelState → Option (Entry × KernelState)
step s me = acts Step (step_change s me)
