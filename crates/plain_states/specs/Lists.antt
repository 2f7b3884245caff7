-- Loci in their list, and names that are kept.
use Rattle.std.specs.Prelude.{◌≡◌, ℕ, ◌+◌, ◌-◌, ◌≤◌, List, ◌++◌, Some, None, slice_get}
use Rattle.base_types.specs.declared.instructions.Condition.TheVariants.{Running}
use Rattle.model_kernel.specs.Acts.{Act, wanted}
use Rattle.model_kernel.specs.State.{AtlasState}
use Rattle.model_kernel.specs.Steps.{running}
use Rattle.plain_states.specs.Plains.{locus_cell, locus_of}
use Rattle.plain_states.specs.declared.plain.PlainLocus.{PlainLocus}

-- the locus of this number stands at this place, and is running
pub record IsRunningAt (loci : List PlainLocus) (number place : ℕ) : Type 0 where
  pub at : place + 41 ≡ number
  pub locus : PlainLocus
  pub is : slice_get loci place ≡ Some locus
  pub runs : locus.condition ≡ Running

-- the number is no locus's, or the locus is not born, stopped or halted
abbrev pub IsIdleIn : List PlainLocus → ℕ → Type 0
IsIdleIn loci number = 41 ≤ number → running (locus_cell (slice_get loci (number - 41))) ≡ None

-- the running locus of this number stands at this place, and wants this act
pub record IsActingAt (loci : List PlainLocus) (number place : ℕ) (act : Act) : Type 0 where
  pub at : place + 41 ≡ number
  pub locus : PlainLocus
  pub is : slice_get loci place ≡ Some locus
  pub runs : locus.condition ≡ Running
  pub wants : wanted number (locus_of locus) ≡ act
