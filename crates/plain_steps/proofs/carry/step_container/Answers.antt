use Rattle.std.proofs.Common.{◌≡◌, ◌-◌, ◌<◌, List, [], ◌∷◌, length, true, rules, arith, refl, ap, ◌∙◌}
use Rattle.std.proofs.lemmas.Result.{err_from_is_err_and}
use Rattle.model_kernel.specs.Acts.{beside}
use Rattle.plain_states.specs.Entries.{step_entry, versions_after}
use Rattle.plain_states.specs.Plains.{atlas_of, locus_of}
use Rattle.plain_states.specs.declared.entries.Mark.{Mark}
use Rattle.plain_states.proofs.model_act_facts_lemmas.WantLemmas.{allowed_by, beside_leaves}
use Rattle.plain_facts.proofs.PlainSteps.{both_kept, container_at, here_read, operands, place_beside, stepped_container}
use Rattle.plain_steps.proofs.carry.step_container.Goals as goal

pub index_mut-requires : goal.index_mut-requires
index_mut-requires g c =
    let st = c.args.state.now in
    let r = c.requires.1.1.1 in
    let a = atlas_of st.atlas in
    let cs = st.containers.items in
    let ls = st.loci.items in
    let n = c.args.locus in
    let j = c.args.place in
    let x = c.args.container in
    let q = c.number.result - 1 in
    let i = c.args.instr in
    let l = c.index_mut-l.result.now in
    let h = here_read g.s a cs ls n j (beside i x) r.0 r.1.1.0 l c.index_mut-l.ensures.value in
    let p = place_beside g.s a cs ls n j l i x h r.1.1.1.0 r.1.1.1.1 in
    let lt : q < length cs = omega (arith, p.0, c.number.ensures.number) in
    search rules

pub beside_container-requires : goal.beside_container-requires
beside_container-requires g c κs within =
    let st = c.args.state.now in
    let r = c.requires.1.1.1 in
    let a = atlas_of st.atlas in
    let cs = st.containers.items in
    let ls = st.loci.items in
    let n = c.args.locus in
    let j = c.args.place in
    let x = c.args.container in
    let q = c.number.result - 1 in
    let i = c.args.instr in
    let l = c.index_mut-l.result.now in
    let h = here_read g.s a cs ls n j (beside i x) r.0 r.1.1.0 l c.index_mut-l.ensures.value in
    let p = place_beside g.s a cs ls n j l i x h r.1.1.1.0 r.1.1.1.1 in
    let at : q ≡ x - 1 = ap (λ m. m - 1) c.number.ensures.number in
    let b = c.index_mut.result.now in
    let k = container_at g.s a cs ls n j x q b h.sound p.1 at c.index_mut.ensures.value in
    let free = allowed_by n (locus_of l) (beside i x) h.wants refl in
    (λ a mem. within a mem, (c.requires.1.0, (c.requires.1.1.0, (h.ready, (k.ready, (operands g.s a cs ls n j l (beside i x) h refl, beside_leaves n (locus_of l) i x free.is))))))

pub returns-in_err-made-clause-err : goal.returns-in_err-made-clause-err
returns-in_err-made-clause-err g c =
    let st = c.args.state.now in
    let r = c.requires.1.1.1 in
    let a = atlas_of st.atlas in
    let cs = st.containers.items in
    let ls = st.loci.items in
    let n = c.args.locus in
    let j = c.args.place in
    let x = c.args.container in
    let q = c.number.result - 1 in
    let i = c.args.instr in
    let l = c.index_mut-l.result.now in
    let h = here_read g.s a cs ls n j (beside i x) r.0 r.1.1.0 l c.index_mut-l.ensures.value in
    let p = place_beside g.s a cs ls n j l i x h r.1.1.1.0 r.1.1.1.1 in
    let at : q ≡ x - 1 = ap (λ m. m - 1) c.number.ensures.number in
    let b = c.index_mut.result.now in
    let k = container_at g.s a cs ls n j x q b h.sound p.1 at c.index_mut.ensures.value in
    let e = err_from_is_err_and c.from_residual.result c.from_residual.ensures.1 in
    let kept = c.in_err-made.ensures.err in
    rw e.1 (record { cells = both_kept g.s a cs ls n j l c.beside_container.new.l (beside i x) q x b c.beside_container.new.c h k kept.1 kept.0; versions = refl })

pub returns-clause-step : goal.returns-clause-step
returns-clause-step g c =
    let st = c.args.state.now in
    let r = c.requires.1.1.1 in
    let a = atlas_of st.atlas in
    let cs = st.containers.items in
    let ls = st.loci.items in
    let us = c.args.versions.now in
    let n = c.args.locus in
    let j = c.args.place in
    let x = c.args.container in
    let q = c.number.result - 1 in
    let i = c.args.instr in
    let l = c.index_mut-l.result.now in
    let h = here_read g.s a cs ls n j (beside i x) r.0 r.1.1.0 l c.index_mut-l.ensures.value in
    let p = place_beside g.s a cs ls n j l i x h r.1.1.1.0 r.1.1.1.1 in
    let at : q ≡ x - 1 = ap (λ m. m - 1) c.number.ensures.number in
    let b = c.index_mut.result.now in
    let k = container_at g.s a cs ls n j x q b h.sound p.1 at c.index_mut.ensures.value in
    let few : n < length us = search rules in
    let made = c.in_ok-made.made in
    let second : c.wrote.result ≡ record { entity = n; wrote = true } = c.wrote.ensures in
    let marks : record { entity = x; wrote = made.wrote } ∷ c.wrote.result ∷ [] ≡ record { entity = x; wrote = made.wrote } ∷ record { entity = n; wrote = true } ∷ [] =
    (λ t. record { entity = x; wrote = made.wrote } ∷ second t ∷ []) in
    let entry = c.entry_of_two.ensures.entry ∙ ap (λ (marks : List Mark). step_entry us n marks made.answer) marks in
    let versions = c.entry_of_two.ensures.versions ∙ ap (versions_after us) marks in
    rw versions (stepped_container g.s a cs ls n j l c.beside_container.new.l i q x b c.beside_container.new.c us made.answer made.wrote c.entry_of_two.result h k c.in_ok-made.ensures.made entry few)
