use Rattle.cell_states.specs.model_kernel.State.{NotBorn}
use Rattle.cell_states.specs.act_alone.Loci.{locus_of}
use Rattle.cell_states.specs.act_calls.Calls.{atlas_state}
use Rattle.cell_newborns.proofs.Newborns.{bears_locus, makes_locus}
use Rattle.cell_newborns.proofs.loci.spawn_locus.Goals as goal

pub returns : goal.returns
returns c me s =
    let l = locus_of c.args.locus.now in
    let a = atlas_state c.args.atlas.now in
    let bears = bears_locus s me l a NotBorn c.requires.wants c.requires.free in
    makes_locus _ a (atlas_state c.spawn.new.atlas) (locus_of c.spawn.new.locus) bears.0 c.spawn.result c.spawn.new.newborn (c.spawn.ensures me s NotBorn) bears.1
