use Rattle.std.proofs.Common.{◌≡◌, drop, map}
use Rattle.act_atlas_laws.specs.act_calls.Calls.{atlas_state}
use Rattle.script_types.specs.Scripts.{container_of}
use Rattle.model_births.specs.Misfits.{container_clash}
use Rattle.script_fits.proofs.fitting.container_clash.Given as goal

-- no name before this table's clashes
abbrev pub invariant-loop-i : goal.invariant-loop-i
invariant-loop-i l = container_clash (atlas_state l.atlas) (map container_of (drop l.i l.tables)) l.i ≡ container_clash (atlas_state l.atlas) (map container_of l.tables) 0
