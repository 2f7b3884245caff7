-- The act that a locus wants: its instruction, the refusal that the locus alone decides, and what it touches besides the locus.
use Rattle.std.specs.Prelude.{ℕ, ◌/◌, Bool, true, false, ◌==◌, if◌then◌else◌, Option, Some, None}
use Rattle.base_types.specs.declared.capabilities.Private.{Private}
use Rattle.base_types.specs.declared.entities.Kind.{Kind}
use Rattle.base_types.specs.declared.entities.Kind.TheVariants.{Container, Locus}
use Rattle.base_types.specs.declared.instructions.Call.{Call}
use Rattle.base_types.specs.declared.instructions.Instr.{Instr}
use Rattle.base_types.specs.declared.instructions.Instr.TheVariants.{Set, Copy, Add, Sub, Jump, Jz, Load, Store, Invoke, Leave, Return, Map, Unmap, Lmap, Lunmap, Take, Give, Drop, Make, Spawn, Stop, Go, Snap, Stabilise, Print, Halt}
use Rattle.base_types.specs.declared.instructions.Reply.{Reply}
use Rattle.base_types.specs.declared.instructions.Walk.{Walk}
use Rattle.model_kernel.specs.State.{LocusState}
use Rattle.model_kernel.specs.Words.{last_call}
use Rattle.model_kernel.specs.Refusals.{reg, instr_at, entity_of, private_at, refusal}

-- `atlas`, `other` and `newborn` say what is touched besides the locus
pub record Act : Type 0 where
  pub instr : Instr
  pub refused : Option Reply
  pub atlas : Bool
  pub other : Option ℕ
  pub newborn : Option Kind

-- the locus alone is touched
abbrev pub alone : Instr → Option Reply → Act
alone i refused = record { instr = i; refused = refused; atlas = false; other = None; newborn = None }

-- another entity is touched
abbrev pub beside : Instr → ℕ → Act
beside i x = record { instr = i; refused = None; atlas = false; other = Some x; newborn = None }

-- a second entity, which may be the locus itself: then it is touched once
abbrev pub beside_or_self : ℕ → Instr → ℕ → Act
beside_or_self me i x = if x == me then alone i None else beside i x

-- the atlas and a container are touched
abbrev pub beside_and_atlas : Instr → ℕ → Act
beside_and_atlas i x = record { instr = i; refused = None; atlas = true; other = Some x; newborn = None }

-- something is born, and the atlas names it
abbrev pub bearing : Instr → Kind → Act
bearing i kind = record { instr = i; refused = None; atlas = true; other = None; newborn = Some kind }

-- THE CONTAINER OF THE NEXT LOOK

abbrev pub first_place : LocusState → Option Private → ℕ
first_place l (Some p) = p.region.target
first_place l None = l.host

abbrev pub place_of_look : LocusState → ℕ → Option Walk → ℕ
place_of_look l address (Some w) = w.at
place_of_look l address None = first_place l (private_at l (address / 128))

-- a begun walk goes on where it stands; a new one begins at the private region's target, or else at the host
abbrev pub look_at : LocusState → ℕ → ℕ
look_at l address = place_of_look l address l.walk

-- THE CONTAINER OF THE CALLER

abbrev pub container_of_call : Option Call → ℕ
container_of_call (Some c) = c.container
container_of_call None = 0

abbrev pub caller : LocusState → ℕ
caller l = container_of_call (last_call l.chain)

-- the act of an instruction that the locus alone doesn't refuse; `me` is the locus's number
unfoldable pub allowed : ℕ → LocusState → Instr → Act
allowed me l (Load d a) = beside (Load d a) (look_at l (reg l a))
allowed me l (Store a s) = beside (Store a s) (look_at l (reg l a))
allowed me l (Invoke c) = beside (Invoke c) (entity_of l c)
allowed me l (Leave c) = beside (Leave c) (entity_of l c)
allowed me l Return = beside Return (caller l)
allowed me l (Map d a c b n rights) = beside_and_atlas (Map d a c b n rights) (entity_of l d)
allowed me l (Unmap d a) = beside_and_atlas (Unmap d a) (entity_of l d)
allowed me l (Take d c y) = beside (Take d c y) (entity_of l c)
allowed me l (Give d c s rights) = beside (Give d c s rights) (entity_of l c)
allowed me l (Make d n t e) = bearing (Make d n t e) Container
allowed me l (Spawn d p) = bearing (Spawn d p) Locus
allowed me l (Stop c) = beside_or_self me (Stop c) (entity_of l c)
allowed me l (Go c) = beside_or_self me (Go c) (entity_of l c)
allowed me l (Snap c) = beside_or_self me (Snap c) (entity_of l c)
allowed me l (Set d n) = alone (Set d n) None
allowed me l (Copy d s) = alone (Copy d s) None
allowed me l (Add d s) = alone (Add d s) None
allowed me l (Sub d s) = alone (Sub d s) None
allowed me l (Jump p) = alone (Jump p) None
allowed me l (Jz s p) = alone (Jz s p) None
allowed me l (Lmap a c b n rights) = alone (Lmap a c b n rights) None
allowed me l (Lunmap a) = alone (Lunmap a) None
allowed me l (Drop s) = alone (Drop s) None
allowed me l (Stabilise c) = alone (Stabilise c) None
allowed me l (Print s) = alone (Print s) None
allowed me l Halt = alone Halt None

-- an act that the locus alone refuses touches the locus alone
abbrev pub act_by : ℕ → LocusState → Instr → Option Reply → Act
act_by me l i (Some r) = alone i (Some r)
act_by me l i None = allowed me l i

-- THE WANTED ACT
unfoldable pub wanted : ℕ → LocusState → Act
wanted me l = act_by me l (instr_at l) (refusal l (instr_at l))
