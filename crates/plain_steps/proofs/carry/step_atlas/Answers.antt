use Rattle.std.proofs.Common.{◌≡◌, ◌<◌, true, ◌∷◌, [], List, length, rules, ap, ◌∙◌}
use Rattle.model_kernel.specs.Acts.{beside}
use Rattle.plain_states.specs.Entries.{step_entry, versions_after}
use Rattle.plain_states.specs.Plains.{atlas_of}
use Rattle.plain_states.specs.declared.entries.Mark.{Mark}
use Rattle.plain_facts.proofs.PlainSteps.{here_read, stepped_atlas}
use Rattle.plain_steps.proofs.carry.step_atlas.Goals as goal

pub finish-answer-requires : goal.finish-answer-requires
finish-answer-requires g c =
    let st = c.args.state.now in
    let r = c.requires in
    let h = here_read g.s (atlas_of st.atlas) st.containers.items st.loci.items c.args.locus c.args.place (beside r.1.1.0 0) r.0 r.1.1.1 c.index_mut.result.now c.index_mut.ensures.value in
    record { place = h.ready.place }

pub returns-clause-step : goal.returns-clause-step
returns-clause-step g c =
    let st = c.args.state.now in
    let r = c.requires in
    let l = c.index_mut.result.now in
    let us = c.args.versions.now in
    let h = here_read g.s (atlas_of st.atlas) st.containers.items st.loci.items c.args.locus c.args.place (beside r.1.1.0 0) r.0 r.1.1.1 l c.index_mut.ensures.value in
    let few : c.args.locus < length us = search rules in
    let first : c.wrote.result ≡ record { entity = 0; wrote = true } = c.wrote.ensures in
    let second : c.wrote-2.result ≡ record { entity = c.args.locus; wrote = true } = c.wrote-2.ensures in
    let marks : c.wrote.result ∷ c.wrote-2.result ∷ [] ≡ record { entity = 0; wrote = true } ∷ record { entity = c.args.locus; wrote = true } ∷ [] = (λ t. first t ∷ second t ∷ []) in
    let entry = c.entry_of_two.ensures.entry ∙ ap (λ (marks : List Mark). step_entry us c.args.locus marks c.finish-answer.result) marks in
    let versions = c.entry_of_two.ensures.versions ∙ ap (versions_after us) marks in
    rw versions (stepped_atlas g.s (atlas_of st.atlas) st.containers.items st.loci.items c.args.locus c.args.place l c.finish-answer.new.l r.1.1.0 us c.finish-answer.result c.entry_of_two.result h
    c.finish-answer.ensures.locus c.finish-answer.ensures.answer entry few)
