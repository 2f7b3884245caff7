use Rattle.std.proofs.Common.{sym, ap}
use Rattle.cell_states.specs.model_kernel.State.{no_atlas}
use Rattle.cell_states.specs.act_alone.Loci.{locus_of}
use Rattle.cell_states.specs.Cells.{part_of}
use Rattle.cell_calls.proofs.Wants.{fits_touches}
use Rattle.cell_calls.proofs.BesideSteps.{stepped_both}
use Rattle.cell_calls.proofs.besides.step_beside.Goals as goal

pub returns-clause-step : goal.returns-clause-step
returns-clause-step c s words w hasl haso =
    let run = c.requires.wants in
    let l = locus_of run.0 in
    let me = c.args.locus.now.clock.entity in
    let is = ap (part_of s words) run.1.is in
    let touches = fits_touches me c.args.other.now.clock.entity l c.args.instr c.args.other.now.part run.2 c.requires.fits c.requires.apart in
    stepped_both s words w c.args.locus.now c.args.other.now _ _ l c.act_in_parts-answer.result c.write_both.result hasl haso is run.1.runs touches c.requires.apart
    (c.act_in_parts-answer.ensures.made me s words l no_atlas (λ e. c.requires.apart (sym e)) is)
    c.write_both.ensures.entity_locus c.write_both.ensures.entity_other (λ j k. c.write_both.ensures.carries w hasl.clock haso.clock j k)
