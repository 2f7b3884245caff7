-- The refusal of a key that is not known.
use Rattle.std.specs.Prelude.{◌≡◌, string_bytes, ⊤}
use Rattle.command_outcomes.specs.declared.faults.Fault.{Fault}
use Rattle.command_outcomes.specs.declared.faults.Fault.TheVariants.{DiskFault, Foreign, Memory, NoBlocks, Script, Source, Usage}
use Rattle.script_types.specs.declared.refusals.Why.TheVariants.{Unknown}
use Rattle.script_types.specs.model_kernel.State.{Text}

-- the fault is that refusal, unless memory ran out for it
abbrev pub IsUnknownKey : Text → Fault → Type 0
IsUnknownKey key (Script refusal) = (refusal.why ≡ Unknown) × (string_bytes refusal.key ≡ key)
IsUnknownKey key Memory = ⊤
IsUnknownKey key Usage = ⊥
IsUnknownKey key (Foreign block place) = ⊥
IsUnknownKey key DiskFault = ⊥
IsUnknownKey key Source = ⊥
IsUnknownKey key (NoBlocks n) = ⊥
