use Rattle.std.proofs.Common.{◌≡◌, drop, map, length}
use Rattle.model_kernel.specs.Births.{caps_from}
use Rattle.model_kernel.specs.Scripts.{number_in}
use Rattle.script_types.specs.Scripts.{cap_of}
use Rattle.plain_states.specs.Plains.{atlas_of}
use Rattle.plain_states.proofs.tables.caps_from.Given as goal

abbrev pub invariant-loop-slot : goal.invariant-loop-slot
invariant-loop-slot l = record {
  slots : length l.caps.items ≡ 32;
  filled : l.caps.items ≡ caps_from (number_in (atlas_of l.atlas) l.own l.newborn) l.slot (drop l.slot (map cap_of l.tables));
}
