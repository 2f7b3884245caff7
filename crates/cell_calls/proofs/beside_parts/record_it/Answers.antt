use Rattle.cell_states.specs.act_alone.Loci.{locus_of}
use Rattle.cell_calls.proofs.Wants.{snap_within, snap_makes}
use Rattle.cell_calls.proofs.beside_parts.record_it.Goals as goal

pub finish-answer-requires : goal.finish-answer-requires
finish-answer-requires c = snap_within (locus_of c.args.locus.now) c.args.instr c.args.number c.requires.ready c.requires.wants c.requires.snap

pub returns : goal.returns
returns c me s a cell apart =
    snap_makes s me c.args.number (locus_of c.args.locus.now) (locus_of c.finish-answer.new.self) a cell c.args.instr c.requires.wants c.requires.snap apart c.finish-answer.ensures.locus
