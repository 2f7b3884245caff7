use Rattle.act_alone.specs.Loci.{locus_of}
use Rattle.test_acts.proofs.WantLemmas.{next_instr}
use Rattle.test_acts.proofs.kernel.bearing.Goals as goal

pub make-requires-clause-instr : goal.make-requires-clause-instr
make-requires-clause-instr c = next_instr (locus_of c.args.locus.now) c.args.act c.requires.wants

pub spawn-requires-clause-instr : goal.spawn-requires-clause-instr
spawn-requires-clause-instr c = next_instr (locus_of c.args.locus.now) c.args.act c.requires.wants
