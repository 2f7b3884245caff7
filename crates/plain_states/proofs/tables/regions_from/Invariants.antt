use Rattle.std.proofs.Common.{◌≡◌, drop, map}
use Rattle.model_kernel.specs.Births.{regions_from}
use Rattle.model_kernel.specs.Scripts.{number_in}
use Rattle.script_types.specs.Scripts.{region_of}
use Rattle.plain_states.specs.Plains.{atlas_of}
use Rattle.plain_states.proofs.tables.regions_from.Given as goal

abbrev pub invariant-loop-i : goal.invariant-loop-i
invariant-loop-i l = l.regions.items ≡ regions_from (number_in (atlas_of l.atlas) l.own l.newborn) (drop l.i (map region_of l.tables))
