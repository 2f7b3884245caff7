use Rattle.std.proofs.Common.{◌≡◌, drop, map}
use Rattle.plain_states.specs.Plains.{atlas_of}
use Rattle.script_types.specs.Scripts.{locus_of}
use Rattle.plain_runs.proofs.fitting.locus_clash.Given as goal
use Rattle.plain_steps.specs.model_births.Misfits.{locus_clash}

-- no name before this table's clashes
abbrev pub invariant-loop-i : goal.invariant-loop-i
invariant-loop-i l = locus_clash (atlas_of l.atlas) (map locus_of (drop l.i l.tables)) l.i ≡ locus_clash (atlas_of l.atlas) (map locus_of l.tables) 0
