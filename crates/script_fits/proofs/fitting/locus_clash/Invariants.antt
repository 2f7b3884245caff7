use Rattle.std.proofs.Common.{◌≡◌, drop, map}
use Rattle.act_atlas_laws.specs.act_calls.Calls.{atlas_state}
use Rattle.script_types.specs.Scripts.{locus_of}
use Rattle.model_births.specs.Misfits.{locus_clash}
use Rattle.script_fits.proofs.fitting.locus_clash.Given as goal

-- no name before this table's clashes
abbrev pub invariant-loop-i : goal.invariant-loop-i
invariant-loop-i l = locus_clash (atlas_state l.atlas) (map locus_of (drop l.i l.tables)) l.i ≡ locus_clash (atlas_state l.atlas) (map locus_of l.tables) 0
