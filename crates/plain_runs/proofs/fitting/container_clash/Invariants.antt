use Rattle.std.proofs.Common.{◌≡◌, drop, map}
use Rattle.plain_states.specs.Plains.{atlas_of}
use Rattle.script_types.specs.Scripts.{container_of}
use Rattle.plain_runs.proofs.fitting.container_clash.Given as goal
use Rattle.plain_steps.specs.model_births.Misfits.{container_clash}

-- no name before this table's clashes
abbrev pub invariant-loop-i : goal.invariant-loop-i
invariant-loop-i l = container_clash (atlas_of l.atlas) (map container_of (drop l.i l.tables)) l.i ≡ container_clash (atlas_of l.atlas) (map container_of l.tables) 0
