use Rattle.std.proofs.Common.{ap}
use Rattle.cell_clocks.specs.model_kernel.Acts.{wanted}
use Rattle.cell_clocks.specs.model_kernel.Steps.{seen_atlas, seen_other}
use Rattle.act_calls.specs.act_alone.Loci.{locus_of}
use Rattle.cell_states.specs.Cells.{part_of}
use Rattle.cell_states.proofs.Stepping.{stepped_alone}
use Rattle.cell_states.proofs.alone.step_alone.Goals as goal

pub returns-clause-step : goal.returns-clause-step
returns-clause-step c s words w has =
    let run = c.requires.running in
    let l = locus_of run.0 in
    let act = wanted c.args.cell.now.clock.entity l in
    let is = ap (part_of s words) run.1.is in
    stepped_alone s words w c.args.cell.now _ l c.act_in_part-answer.result c.write_one.result has is run.1.runs run.2.alone
    (c.act_in_part-answer.ensures s words l (seen_atlas w act.atlas) (seen_other w act.other) is)
    c.write_one.ensures.entity (λ j. c.write_one.ensures.carries w has.clock j)
