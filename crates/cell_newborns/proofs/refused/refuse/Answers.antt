use Rattle.cell_states.specs.model_kernel.State.{NotBorn}
use Rattle.cell_states.specs.act_alone.Loci.{locus_of}
use Rattle.cell_newborns.proofs.NoNumbers.{makes_none, none_within}
use Rattle.cell_newborns.proofs.refused.refuse.Goals as goal

pub finish-requires : goal.finish-requires
finish-requires c = none_within (locus_of c.args.locus.now) c.requires.none.0 c.requires.ready c.requires.none.1

pub returns : goal.returns
returns c me s d none = makes_none s me (locus_of c.args.locus.now) (locus_of c.finish.new.self) d NotBorn c.finish.result none c.finish.ensures.locus c.finish.ensures.answer
