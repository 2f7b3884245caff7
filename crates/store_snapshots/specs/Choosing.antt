-- What a call answers that keeps the chosen records alone.
use Rattle.std.specs.Prelude.{◌≡◌, Bool, true, Result, IsErrOf}
use Rattle.edge_disk.specs.declared.disk.NoBlocks.{NoBlocks}
use Rattle.store_snapshots.specs.declared.faults.StoreFault.{StoreFault}
use Rattle.store_snapshots.specs.declared.faults.StoreFault.TheVariants as fault

-- Shut exactly of a store that is shut, WriteFault only from its cause, and then the store is shut; nothing else goes wrong
pub record KeepAnswers {T : Type 0} (was_shut is_shut : Bool) (cause : Type 0) (result : Result T StoreFault) : Type 0 where
  pub shut : was_shut ≡ true → IsErrOf result fault.Shut
  pub only_shut : IsErrOf result fault.Shut → was_shut ≡ true
  pub write : IsErrOf result fault.WriteFault → cause × (is_shut ≡ true)
  pub no_read : IsErrOf result fault.ReadFault → ⊥
  pub no_blocks : (b : NoBlocks) → IsErrOf result (fault.NoBlocks b) → ⊥
