use Rattle.std.proofs.Common.{◌<◌, sym, ap, subst, arith}
use Rattle.cell_states.specs.model_kernel.Acts.{wanted}
use Rattle.cell_states.specs.model_kernel.Outcomes.{outcome}
use Rattle.cell_states.specs.model_kernel.State.{NotBorn}
use Rattle.cell_states.specs.act_alone.Loci.{locus_of}
use Rattle.cell_states.specs.act_calls.Calls.{atlas_state}
use Rattle.cell_states.specs.Cells.{part_of}
use Rattle.cell_newborns.specs.Bearing.{MakesNewborn}
use Rattle.cell_newborns.proofs.BirthSteps.{make_touches, stepped_low}
use Rattle.cell_newborns.proofs.births.step_make.Goals as goal

pub returns-clause-step : goal.returns-clause-step
returns-clause-step c s words w hasc hasa hasd =
    let run = c.requires.wants in
    let free = c.requires.free in
    let l = locus_of run.0 in
    let a = atlas_state free.0 in
    let me = c.args.locus.now.clock.entity in
    let x = c.args.newborn.now.clock.entity in
    let is = ap (part_of s words) run.1.is in
    let isa = ap (part_of s words) free.1 in
    let some : 0 < x = omega (arith, free.3) in
    let parts = c.make_in_parts-answer.new in
    let made = subst (λ n. MakesNewborn (outcome s l (wanted me l) a NotBorn) (part_of s words parts.part) (part_of s words parts.atlas) (part_of s words parts.newborn) n c.make_in_parts-answer.result) (sym free.3)
    (c.make_in_parts-answer.ensures.made me s words l a is isa) in
    stepped_low s words w c.args.locus.now c.args.atlas.now c.args.newborn.now _ _ _ l a c.make_in_parts-answer.result c.write_three.result hasc hasa is isa run.1.runs
    (make_touches me l run.2) c.requires.atlas some c.requires.lower made
    c.write_three.ensures.entity_c c.write_three.ensures.entity_a c.write_three.ensures.entity_b (λ i k j. c.write_three.ensures.carries w hasa.clock hasd.clock hasc.clock i k j)
