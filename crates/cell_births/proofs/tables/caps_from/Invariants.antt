use Rattle.std.proofs.Common.{◌≡◌, drop, map}
use Rattle.script_types.specs.model_kernel.Births.{caps_from}
use Rattle.script_types.specs.model_kernel.Scripts.{number_in}
use Rattle.script_types.specs.Scripts.{cap_of}
use Rattle.script_fits.specs.act_calls.Calls.{atlas_state}
use Rattle.cell_births.proofs.tables.caps_from.Given as goal

-- the slots from this one on are filled
abbrev pub invariant-loop-slot : goal.invariant-loop-slot
invariant-loop-slot l = l.caps ≡ caps_from (number_in (atlas_state l.atlas) l.own l.newborn) l.slot (drop l.slot (map cap_of l.tables))
