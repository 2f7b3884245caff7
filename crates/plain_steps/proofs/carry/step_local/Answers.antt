use Rattle.std.proofs.Common.{◌<◌, length, None, rules, refl}
use Rattle.std.proofs.lemmas.Result.{err_from_is_err_and}
use Rattle.model_kernel.specs.Acts.{alone}
use Rattle.plain_states.specs.Plains.{atlas_of, locus_of}
use Rattle.plain_states.proofs.model_act_facts_lemmas.WantLemmas.{allowed_by}
use Rattle.plain_facts.proofs.PlainSteps.{here_read, operands, own_same, stepped_local}
use Rattle.plain_steps.proofs.carry.step_local.Goals as goal

pub local-requires-clause-ready : goal.local-requires-clause-ready
local-requires-clause-ready g c =
    let st = c.args.state.now in
    let h = here_read g.s (atlas_of st.atlas) st.containers.items st.loci.items c.args.locus c.args.place (alone c.args.instr None) c.requires.0 c.requires.1.1 c.index_mut.result.now c.index_mut.ensures.value in
    h.ready

pub local-requires-clause-instruction : goal.local-requires-clause-instruction
local-requires-clause-instruction g c =
    let st = c.args.state.now in
    let l = c.index_mut.result.now in
    let h = here_read g.s (atlas_of st.atlas) st.containers.items st.loci.items c.args.locus c.args.place (alone c.args.instr None) c.requires.0 c.requires.1.1 l c.index_mut.ensures.value in
    operands g.s (atlas_of st.atlas) st.containers.items st.loci.items c.args.locus c.args.place l (alone c.args.instr None) h refl

pub local-requires-clause-allowed : goal.local-requires-clause-allowed
local-requires-clause-allowed g c =
    let st = c.args.state.now in
    let l = c.index_mut.result.now in
    let h = here_read g.s (atlas_of st.atlas) st.containers.items st.loci.items c.args.locus c.args.place (alone c.args.instr None) c.requires.0 c.requires.1.1 l c.index_mut.ensures.value in
    (allowed_by c.args.locus (locus_of l) (alone c.args.instr None) h.wants refl).free

pub returns-in_err-answer-clause-err : goal.returns-in_err-answer-clause-err
returns-in_err-answer-clause-err g c =
    let st = c.args.state.now in
    let l = c.index_mut.result.now in
    let h = here_read g.s (atlas_of st.atlas) st.containers.items st.loci.items c.args.locus c.args.place (alone c.args.instr None) c.requires.0 c.requires.1.1 l c.index_mut.ensures.value in
    let p = err_from_is_err_and c.from_residual.result c.from_residual.ensures.1 in
    rw p.1 (record { cells = own_same g.s (atlas_of st.atlas) st.containers.items st.loci.items c.args.locus c.args.place l c.local.new.l (alone c.args.instr None) h c.in_err-answer.ensures.err; versions = refl })

pub returns-clause-step : goal.returns-clause-step
returns-clause-step g c =
    let st = c.args.state.now in
    let l = c.index_mut.result.now in
    let us = c.args.versions.now in
    let h = here_read g.s (atlas_of st.atlas) st.containers.items st.loci.items c.args.locus c.args.place (alone c.args.instr None) c.requires.0 c.requires.1.1 l c.index_mut.ensures.value in
    let few : c.args.locus < length us = search rules in
    rw c.entry_alone.ensures.versions (stepped_local g.s (atlas_of st.atlas) st.containers.items st.loci.items c.args.locus c.args.place l c.local.new.l c.args.instr us c.in_ok-answer.answer c.entry_alone.result h
    c.in_ok-answer.ensures.locus c.in_ok-answer.ensures.answer c.entry_alone.ensures.entry few)
