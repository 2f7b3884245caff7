use Rattle.std.proofs.Common.{◌<◌, length, Some, rules}
use Rattle.model_kernel.specs.Acts.{alone}
use Rattle.plain_states.specs.Plains.{atlas_of}
use Rattle.plain_facts.proofs.PlainSteps.{here_read, stepped_refused}
use Rattle.plain_steps.proofs.carry.step_refused.Goals as goal

pub finish-answer-requires : goal.finish-answer-requires
finish-answer-requires g c =
    let st = c.args.state.now in
    let r = c.requires in
    let act = alone r.1.1.0 (Some c.args.reply) in
    let h = here_read g.s (atlas_of st.atlas) st.containers.items st.loci.items c.args.locus c.args.place act r.0 r.1.1.1 c.index_mut.result.now c.index_mut.ensures.value in
    record { place = h.ready.place }

pub returns-clause-step : goal.returns-clause-step
returns-clause-step g c =
    let st = c.args.state.now in
    let r = c.requires in
    let act = alone r.1.1.0 (Some c.args.reply) in
    let l = c.index_mut.result.now in
    let us = c.args.versions.now in
    let h = here_read g.s (atlas_of st.atlas) st.containers.items st.loci.items c.args.locus c.args.place act r.0 r.1.1.1 l c.index_mut.ensures.value in
    let few : c.args.locus < length us = search rules in
    rw c.entry_alone.ensures.versions (stepped_refused g.s (atlas_of st.atlas) st.containers.items st.loci.items c.args.locus c.args.place l c.finish-answer.new.l r.1.1.0 c.args.reply us c.finish-answer.result c.entry_alone.result h
    c.finish-answer.ensures.locus c.finish-answer.ensures.answer c.entry_alone.ensures.entry few)
