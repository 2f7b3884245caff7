use Rattle.std.proofs.Common.{ap}
use Rattle.cell_states.specs.model_kernel.State.{no_atlas}
use Rattle.cell_states.specs.act_alone.Loci.{locus_of}
use Rattle.cell_calls.proofs.Extents.{edits, head_extent}
use Rattle.cell_calls.proofs.Wants.{next_beside}
use Rattle.cell_calls.proofs.beside_parts.act_on_head.Goals as goal

pub returns-in-Give-clause-extent : goal.returns-in-Give-clause-extent
returns-in-Give-clause-extent c =
    let wants = c.requires.wants in
    head_extent (λ _ _ _. 0) (locus_of c.args.locus.now) no_atlas c.args.number c.args.instr (λ _. 0) c.args.head.now c.give.new.head wants.instr wants.allowed wants.other (ap edits c.in-Give.is)
    (c.give.ensures 64 (λ _ _ _. 0) no_atlas (λ _. 0)).other

pub take-requires-clause-instr : goal.take-requires-clause-instr
take-requires-clause-instr c = next_beside (locus_of c.args.locus.now) c.args.instr c.args.number c.requires.wants

pub give-requires-clause-instr : goal.give-requires-clause-instr
give-requires-clause-instr c = next_beside (locus_of c.args.locus.now) c.args.instr c.args.number c.requires.wants
