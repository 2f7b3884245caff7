use Rattle.std.proofs.Common.{ap}
use Rattle.cell_states.specs.act_calls.Calls.{atlas_state}
use Rattle.cell_states.specs.act_alone.Loci.{locus_of}
use Rattle.cell_states.specs.Cells.{part_of}
use Rattle.cell_calls.proofs.MapSteps.{mapping_touches, stepped_three}
use Rattle.cell_calls.proofs.mappings.step_mapping.Goals as goal

pub returns-clause-step : goal.returns-clause-step
returns-clause-step c s words w hasc hasa hasd =
    let run = c.requires.wants in
    let l = locus_of run.0 in
    let me = c.args.locus.now.clock.entity in
    let x = c.args.other.now.clock.entity in
    let is = ap (part_of s words) run.1.is in
    let isa = ap (part_of s words) run.4.is in
    stepped_three s words w c.args.locus.now c.args.atlas.now c.args.other.now _ _ _ l (atlas_state run.3) c.map_in_parts-answer.result c.write_three.result hasc hasa hasd is isa run.1.runs
    (mapping_touches me x l c.args.instr run.2) c.requires.atlas c.requires.some c.requires.lower
    (c.map_in_parts-answer.ensures.made me s words l (atlas_state run.3) is isa)
    c.write_three.ensures.entity_c c.write_three.ensures.entity_a c.write_three.ensures.entity_b (λ i k j. c.write_three.ensures.carries w hasa.clock hasd.clock hasc.clock i k j)
