-- Who can't step, by cell.
use Rattle.std.proofs.Common.{◌≡◌, ℕ, ◌+◌, ◌<◌, Bool, true, false, not, ◌&&◌, ◌==◌, nat_lt, if◌then◌else◌, List, Option, Some, None, is_some, refl, sym, ap, arith, eqb-true}
use Rattle.std.proofs.lemmas.Bool.Decides.{nat_tests}
use Rattle.cell_steps.specs.base_types.declared.instructions.Condition.{Condition}
use Rattle.cell_steps.specs.base_types.declared.instructions.Condition.TheVariants.{Halted, Running, Stopped as StoppedNow}
use Rattle.cell_steps.specs.model_kernel.State.{AtlasCell, Cell as ModelCell, ContainerCell, LocusCell, NotBorn, Supply, empty_state, no_atlas}
use Rattle.cell_steps.specs.model_kernel.Steps.{if_running, running}
use Rattle.cell_steps.specs.act_alone.declared.loci.Head.{Head}
use Rattle.cell_steps.specs.page_memory.declared.paged.PagedMemory.{PagedMemory}
use Rattle.cell_steps.specs.cell_states.Cells.{container_cell, part_of}
use Rattle.cell_steps.specs.cell_states.declared.cells.Part.{Part}
use Rattle.cell_steps.specs.cell_states.declared.cells.Part.TheVariants as part
use Rattle.cell_steps.specs.cell_plans.Plans.{idle_by, idle_of}
use Rattle.cell_steps.specs.cell_plans.declared.idle.Idle.TheVariants.{Absent, Spent}
use Rattle.table_laws.specs.Tables.{HasKind}

-- nobody stands past the cells
pub empty_idle : (x : ℕ) → idle_of 0 (empty_state x).cell ≡ Some Absent
empty_idle x = by (x == 0)
  where
    by : (t : Bool) → idle_of 0 (if t then AtlasCell no_atlas else NotBorn) ≡ Some Absent
    by true = refl
    by false = refl

pub empty_stays : (x : ℕ) → is_some (running (empty_state x).cell) ≡ false
empty_stays x = by (x == 0)
  where
    by : (t : Bool) → is_some (running (if t then AtlasCell no_atlas else NotBorn)) ≡ false
    by true = refl
    by false = refl

pub high_by : (s : Supply) (words : ℕ → List ℕ) (x left : ℕ) (p : Part) → HasKind x p → idle_of left (part_of s words p) ≡ None → 40 < x
high_by s words x left (part.Locus l) kind none = kind
high_by s words x left (part.Atlas a) kind none = absurd (cc none)
high_by s words x left (part.Container b) kind none = by b.memory b.head none
  where
    by : (m : PagedMemory) (h : Option Head) → idle_of left (container_cell s words m h) ≡ None → 40 < x
    by m None none = absurd (cc none)
    by m (Some h) none = absurd (cc none)

spent : (left made total : ℕ) → made + left ≡ total → is_some (if left == 0 then Some Spent else None) ≡ not (nat_lt made total)
spent left made total sum = elim (left == 0) as (λ t. (left == 0) ≡ t → is_some (if t then Some Spent else None) ≡ not (nat_lt made total)) [
  | true ↦ λ is. sym (ap not (none (eqb-true left 0 is)))
  | false ↦ λ is. sym (ap not (some is))
] refl
  where
    none : left ≡ 0 → nat_lt made total ≡ false
    none empty = grind (arith, nat_tests)

    some : (left == 0) ≡ false → nat_lt made total ≡ true
    some more = grind (arith, nat_tests)

pub can_by : (cell : ModelCell) (left made total : ℕ) → made + left ≡ total → is_some (idle_of left cell) ≡ not (is_some (running cell) && nat_lt made total)
can_by NotBorn left made total sum = refl
can_by (AtlasCell a) left made total sum = refl
can_by (ContainerCell c) left made total sum = refl
can_by (LocusCell l) left made total sum = by l.condition
  where
    by : (k : Condition) → is_some (idle_by left k) ≡ not (is_some (if_running l k) && nat_lt made total)
    by Halted = refl
    by StoppedNow = refl
    by Running = spent left made total sum
