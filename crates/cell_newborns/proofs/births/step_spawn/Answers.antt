use Rattle.std.proofs.Common.{sym, ap, subst}
use Rattle.cell_states.specs.model_kernel.Acts.{wanted}
use Rattle.cell_states.specs.model_kernel.Outcomes.{outcome}
use Rattle.cell_states.specs.model_kernel.State.{NotBorn}
use Rattle.cell_states.specs.act_alone.Loci.{locus_of}
use Rattle.cell_states.specs.act_calls.Calls.{atlas_state}
use Rattle.cell_states.specs.Cells.{part_of}
use Rattle.cell_newborns.specs.Bearing.{MakesNewborn}
use Rattle.cell_newborns.proofs.BirthSteps.{spawn_touches, stepped_high}
use Rattle.cell_newborns.proofs.births.step_spawn.Goals as goal

pub returns-clause-step : goal.returns-clause-step
returns-clause-step c s words w hasc hasa hasd =
    let run = c.requires.wants in
    let free = c.requires.free in
    let l = locus_of run.0 in
    let a = atlas_state free.0 in
    let me = c.args.locus.now.clock.entity in
    let is = ap (part_of s words) run.1.is in
    let isa = ap (part_of s words) free.1 in
    let parts = c.spawn_in_parts-answer.new in
    let made = subst (λ n. MakesNewborn (outcome s l (wanted me l) a NotBorn) (part_of s words parts.part) (part_of s words parts.atlas) (part_of s words parts.newborn) n c.spawn_in_parts-answer.result) (sym free.3)
    (c.spawn_in_parts-answer.ensures me s words l a is isa) in
    stepped_high s words w c.args.locus.now c.args.atlas.now c.args.newborn.now _ _ _ l a c.spawn_in_parts-answer.result c.write_three.result hasc hasa is isa run.1.runs
    (spawn_touches me l run.2) c.requires.atlas c.requires.locus c.requires.higher made
    c.write_three.ensures.entity_b c.write_three.ensures.entity_a c.write_three.ensures.entity_c (λ i j k. c.write_three.ensures.carries w hasa.clock hasc.clock hasd.clock i j k)
