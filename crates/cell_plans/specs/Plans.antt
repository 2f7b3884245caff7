-- What a locus's step touches, and why a locus makes none.
use Rattle.std.specs.Prelude.{◌≡◌, ◌≢◌, ℕ, ◌<◌, true, ◌||◌, ◌==◌, if◌then◌else◌, Option, Some, None}
use Rattle.base_types.specs.declared.instructions.Condition.{Condition}
use Rattle.base_types.specs.declared.instructions.Condition.TheVariants.{Running, Stopped, Halted}
use Rattle.base_types.specs.declared.instructions.Instr.{Instr}
use Rattle.act_look.specs.model_kernel.Acts.{wanted}
use Rattle.act_look.specs.model_kernel.Refusals.{instr_at}
use Rattle.act_look.specs.model_kernel.State.{LocusState, Cell, NotBorn, AtlasCell, ContainerCell, LocusCell}
use Rattle.act_look.specs.model_acts.Views.{may_name_itself}
use Rattle.act_look.specs.act_alone.Loci.{locus_of}
use Rattle.act_look.specs.act_alone.declared.loci.Locus.{Locus}
use Rattle.act_look.specs.act_invoke.Entries.{WantsBeside}
use Rattle.act_look.specs.Looks.{is_look}
use Rattle.cell_calls.specs.act_calls.Calls.{WantsBirth, is_make, is_spawn}
use Rattle.cell_calls.specs.cell_states.Cells.{IsRunning}
use Rattle.cell_calls.specs.cell_states.Steps.{ActsAlone}
use Rattle.cell_calls.specs.cell_states.declared.cells.Cell.{Cell as LentCell}
use Rattle.cell_calls.specs.Besides.{WantsOther, calls_container}
use Rattle.cell_calls.specs.Mapping.{WantsMapping}
use Rattle.cell_plans.specs.declared.idle.Idle.{Idle}
use Rattle.cell_plans.specs.declared.idle.Idle.TheVariants as idle
use Rattle.cell_plans.specs.declared.plans.Reach.{Reach}
use Rattle.cell_plans.specs.declared.plans.Reach.TheVariants as reach

abbrev pub idle_by : ℕ → Condition → Option Idle
idle_by left Halted = Some idle.Halted
idle_by left Stopped = Some idle.Stopped
idle_by left Running = if left == 0 then Some idle.Spent else None

-- why a locus with so many steps left can't step: it is absent, halted, stopped or out of steps, in this order
abbrev pub idle_of : ℕ → Cell → Option Idle
idle_of left (LocusCell l) = idle_by left l.condition
idle_of left NotBorn = Some idle.Absent
idle_of left (AtlasCell a) = Some idle.Absent
idle_of left (ContainerCell c) = Some idle.Absent

-- an act beside another entity that is neither a look nor a mapping
pub record IsCallBeside (me : ℕ) (l : LocusState) (i : Instr) (x : ℕ) : Type 0 where
  pub wants : WantsOther l i x
  pub calls : (calls_container i || may_name_itself i) ≡ true
  pub apart : may_name_itself i ≡ true → x ≢ me

-- the locus with this number wants an act that touches this, by the instruction where it is one beside another entity
abbrev pub PlansFor : ℕ → LocusState → Instr → Reach → Type 0
PlansFor me l i (reach.Alone act) = ActsAlone me l act
PlansFor me l i (reach.Beside x) = IsCallBeside me l i x
PlansFor me l i (reach.Look x) = WantsBeside is_look l x
PlansFor me l i (reach.Mapping x) = WantsMapping l i x
PlansFor me l i reach.Make = WantsBirth is_make l
PlansFor me l i reach.Spawn = WantsBirth is_spawn l

-- the locus of the cell runs, has a step left, has this instruction next, and wants an act that touches this
pub record IsPlanned (c : LentCell) (i : Instr) (r : Reach) : Type 0 where
  pub locus : Locus
  pub runs : IsRunning c.part locus
  pub left : 0 < c.left
  pub instr : i ≡ instr_at (locus_of locus)
  pub wants : PlansFor c.clock.entity (locus_of locus) i r

-- the locus wants this act, which it doesn't refuse, and which names no other entity
pub record BearsNone (l : LocusState) (i : Instr) : Type 0 where
  pub instr : (wanted 64 l).instr ≡ i
  pub allowed : (wanted 64 l).refused ≡ None
  pub other : (wanted 64 l).other ≡ None
  pub same : (me : ℕ) → wanted me l ≡ wanted 64 l
