-- Which answer of an append comes when.
use Rattle.std.specs.Prelude.{◌≡◌, ℕ, Bool, true, false, Result, IsErrOf}
use Rattle.image_blocks.specs.image_facts.Layout.{slot_count}
use Rattle.log_append.specs.declared.log.LogFault.{LogFault}
use Rattle.log_append.specs.declared.log.LogFault.TheVariants.{SlotsFull, WriteFault, Shut}

-- Shut exactly after a failure, then SlotsFull exactly where all slots are used, and WriteFault only from its cause.
pub record AppendAnswers {T : Type 0} (failed : Bool) (used : ℕ) (cause : Type 0) (result : Result T LogFault) : Type 0 where
  pub shut : failed ≡ true → IsErrOf result Shut
  pub only_shut : IsErrOf result Shut → failed ≡ true
  pub full : failed ≡ false → used ≡ slot_count → IsErrOf result SlotsFull
  pub only_full : IsErrOf result SlotsFull → used ≡ slot_count
  pub caused : IsErrOf result WriteFault → cause
