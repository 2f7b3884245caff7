use Rattle.std.proofs.Common.{◌≡◌, None, map, take}
use Rattle.script_types.specs.model_kernel.Scripts.{next_locus_name}
use Rattle.script_types.specs.Scripts.{locus_of}
use Rattle.act_atlas_laws.specs.act_calls.Calls.{atlas_state}
use Rattle.script_fits.proofs.tables.next_locus.Given as goal

-- the names before this table's are in the atlas
abbrev pub invariant-loop-i : goal.invariant-loop-i
invariant-loop-i l = next_locus_name (atlas_state l.atlas) (take l.i (map locus_of l.tables)) ≡ None
