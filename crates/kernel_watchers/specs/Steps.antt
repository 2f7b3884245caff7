-- How many steps stand in a history, and what a run of so many leaves.
use Rattle.std.specs.Prelude.{◌≡◌, ◌+◌, ◌<◌, ℕ, cond, count_by, List, length, Option, None, Some, Ok, Err, Result, ⊤}
use Rattle.edge_disk.specs.declared.disk.Disk.{Ghosts}
use Rattle.base_types.specs.declared.histories.Entry.{Entry}
use Rattle.kernel_runs.specs.kernel_invariant.Marks.{is_step}
use Rattle.kernel_runs.specs.model_serial_turns.Turns.{ComeFirst}
use Rattle.kernel_runs.specs.kernel_invariant.Beginnings.{Beginning}
use Rattle.kernel_runs.specs.kernel_core_facts.Kernels.{Held}
use Rattle.kernel_runs.specs.kernel_run_facts.declared.halts.Halt.{Halt}
use Rattle.kernel_runs.specs.kernel_run_facts.declared.halts.Halt.TheVariants as halt
use Rattle.kernel_runs.specs.kernel_run_facts.Running.{HasStopped, IsOver, RunsAlong, opened_in}

-- one where a step stands there
abbrev pub steps_at : Option Entry → ℕ
steps_at None = 0
steps_at (Some e) = cond (is_step e) 1 0

-- so many entries are noted, and of these steps so many are left, at least one
pub record IsWithin (steps left noted : ℕ) (es : List Entry) : Type 0 where
  pub entries : noted ≡ length es
  pub made : count_by is_step es + left ≡ steps
  pub more : 0 < left

module _ {D : Type 0} (disks : Ghosts D) where
  -- THE STEPS ARE MADE: the history is the births with their Stable and a look at each locus of a front of the course, with exactly so many steps
  pub record HasMadeSteps (b : Beginning) (steps : ℕ) (k : Held D) : Type 0 where
    pub looked : List ℕ
    pub first : ComeFirst b.script (opened_in b) looked
    pub along : RunsAlong disks b looked k
    pub made : count_by is_step k.parts.noted.entries ≡ steps

  -- THE RUN IS OVER before
  pub record IsOverBefore (b : Beginning) (steps : ℕ) (k : Held D) : Type 0 where
    pub over : IsOver disks b k
    pub fewer : count_by is_step k.parts.noted.entries < steps

  -- WHAT A RUN OF SO MANY STEPS LEAVES
  abbrev pub StepsLeave : Beginning → ℕ → Result ⊤ Halt → Held D → Type 0
  StepsLeave b steps (Ok y) k = IsOverBefore b steps k
  StepsLeave b steps (Err (halt.Kernel why)) k = HasStopped disks b k
  StepsLeave b steps (Err halt.Watcher) k = HasMadeSteps b steps k
