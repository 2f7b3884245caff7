use Rattle.std.proofs.Common.{sym, ap, subst}
use Rattle.cell_states.specs.model_kernel.Acts.{wanted}
use Rattle.cell_states.specs.model_kernel.Outcomes.{outcome}
use Rattle.cell_states.specs.model_kernel.State.{NotBorn}
use Rattle.cell_states.specs.act_calls.Calls.{atlas_state}
use Rattle.cell_newborns.specs.Bearing.{MakesNone}
use Rattle.cell_states.specs.act_alone.Loci.{locus_of}
use Rattle.cell_states.specs.Cells.{part_of}
use Rattle.cell_newborns.proofs.NoNumbers.{none_touches, stepped_none}
use Rattle.cell_newborns.proofs.refused.step_no_number.Goals as goal

pub returns-clause-step : goal.returns-clause-step
returns-clause-step c s words w hasc hasa =
    let run = c.requires.wants in
    let l = locus_of run.0 in
    let me = c.args.locus.now.clock.entity in
    let is = ap (part_of s words) run.1.is in
    let isa = ap (part_of s words) run.3 in
    stepped_none s words w c.args.locus.now c.args.atlas.now _ _ l run.2 c.refuse_in_part-answer.result c.write_two.result hasc hasa is isa run.1.runs
    (none_touches c.args.locus.now.clock.entity l run.2 run.4) c.requires.atlas c.requires.some
    (subst (λ k. MakesNone (outcome s l (wanted me l) (atlas_state run.2) NotBorn) (part_of s words c.refuse_in_part-answer.new.part) k c.refuse_in_part-answer.result) (sym isa) (c.refuse_in_part-answer.ensures me s words l run.2 is run.4))
    c.write_two.ensures.entity_b c.write_two.ensures.entity_a (λ i j. c.write_two.ensures.carries w hasa.clock hasc.clock i j)
