use Rattle.std.proofs.Common.{◌≡◌, drop, map}
use Rattle.script_types.specs.model_kernel.Births.{regions_from}
use Rattle.script_types.specs.model_kernel.Scripts.{number_in}
use Rattle.script_types.specs.Scripts.{region_of}
use Rattle.script_fits.specs.act_calls.Calls.{atlas_state}
use Rattle.cell_births.proofs.tables.regions_from.Given as goal

-- the regions of the tables from this one on
abbrev pub invariant-loop-i : goal.invariant-loop-i
invariant-loop-i l = l.regions ≡ regions_from (number_in (atlas_state l.atlas) l.own l.newborn) (drop l.i (map region_of l.tables))
