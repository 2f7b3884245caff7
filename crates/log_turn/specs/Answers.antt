-- Which answer of a turn comes when.
use Rattle.std.specs.Prelude.{◌≡◌, Bool, true, Result, IsErrOf}
use Rattle.log_append.specs.declared.log.LogFault.{LogFault}
use Rattle.log_append.specs.declared.log.LogFault.TheVariants.{SlotsFull, WriteFault, Shut}

-- Shut exactly after a failure, SlotsFull never, and WriteFault only from its cause.
pub record TurnAnswers {T : Type 0} (failed : Bool) (cause : Type 0) (result : Result T LogFault) : Type 0 where
  pub shut : failed ≡ true → IsErrOf result Shut
  pub only_shut : IsErrOf result Shut → failed ≡ true
  pub never_full : IsErrOf result SlotsFull → ⊥
  pub caused : IsErrOf result WriteFault → cause
