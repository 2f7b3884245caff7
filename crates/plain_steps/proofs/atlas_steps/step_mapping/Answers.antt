use Rattle.std.proofs.Common.{◌≡◌, ◌-◌, ◌<◌, length, rules, arith, refl, ap, sym, subst, ◌∙◌}
use Rattle.std.proofs.lemmas.Option.{slice_get_within}
use Rattle.std.proofs.lemmas.Result.{err_from_is_err_and}
use Rattle.model_kernel.specs.Acts.{beside_and_atlas}
use Rattle.model_kernel.specs.State.{AtlasState}
use Rattle.plain_states.specs.model_sound_runs.Names.{KeepsNames}
use Rattle.plain_states.specs.Plains.{atlas_of, cells_by, container_of, locus_of}
use Rattle.plain_states.proofs.ReadyLemmas.{few_edges, ready_edges}
use Rattle.plain_states.proofs.SoundLemmas.{sound_container}
use Rattle.plain_states.proofs.model_act_facts_lemmas.WantLemmas.{allowed_by, mapped_container, mapping_maps}
use Rattle.plain_states.proofs.model_sound_runs_lemmas.Naming.{keeps_same}
use Rattle.plain_facts.proofs.AtlasSteps.{atlas_same, mapping_keeps, stepped_mapping}
use Rattle.plain_facts.proofs.PlainSteps.{acting_here, both_kept, container_at, here_read, listed, operands}
use Rattle.plain_steps.proofs.atlas_steps.step_mapping.Goals as goal

pub overflow_sub-at : goal.overflow_sub-at
overflow_sub-at g c =
    let st = c.args.state.now in
    let r = c.requires in
    let a = atlas_of st.atlas in
    let cs = st.containers.items in
    let ls = st.loci.items in
    let n = c.args.locus in
    let j = c.args.place in
    let x = c.args.container in
    let i = c.args.instr in
    let k = acting_here g.s a cs ls n j (beside_and_atlas i x) r.0 r.1.1.1 in
    let free = allowed_by n (locus_of k.0) (beside_and_atlas i x) k.1.wants refl in
    let born = mapped_container a n (locus_of k.0) i x k.1.sound_here free.free free.is in
    let f = sound_container g.s a cs ls x k.1.sound born in
    omega (arith, f.3, c.number.ensures.number)

pub index_mut-l-requires : goal.index_mut-l-requires
index_mut-l-requires g c =
    let st = c.args.state.now in
    let lt : c.args.place < length st.loci.items = listed g.s (atlas_of st.atlas) st.containers.items st.loci.items c.args.locus c.args.place (beside_and_atlas c.args.instr c.args.container) c.requires.1.1.1 in
    search rules

pub index_mut-c-requires : goal.index_mut-c-requires
index_mut-c-requires g c =
    let st = c.args.state.now in
    let r = c.requires in
    let a = atlas_of st.atlas in
    let cs = st.containers.items in
    let ls = st.loci.items in
    let n = c.args.locus in
    let j = c.args.place in
    let x = c.args.container in
    let i = c.args.instr in
    let k = acting_here g.s a cs ls n j (beside_and_atlas i x) r.0 r.1.1.1 in
    let free = allowed_by n (locus_of k.0) (beside_and_atlas i x) k.1.wants refl in
    let born = mapped_container a n (locus_of k.0) i x k.1.sound_here free.free free.is in
    let f = sound_container g.s a cs ls x k.1.sound born in
    let within : x - 1 < length cs = slice_get_within cs (x - 1) f.0 f.1 in
    let lt : c.number.result - 1 < length cs = omega (arith, within, c.number.ensures.number) in
    search rules

pub mapping-requires-clause-place : goal.mapping-requires-clause-place
mapping-requires-clause-place g c =
    let st = c.args.state.now in
    let r = c.requires in
    let a = atlas_of st.atlas in
    let cs = st.containers.items in
    let ls = st.loci.items in
    let n = c.args.locus in
    let j = c.args.place in
    let x = c.args.container in
    let i = c.args.instr in
    let k = acting_here g.s a cs ls n j (beside_and_atlas i x) r.0 r.1.1.1 in
    let free = allowed_by n (locus_of k.0) (beside_and_atlas i x) k.1.wants refl in
    let born = mapped_container a n (locus_of k.0) i x k.1.sound_here free.free free.is in
    let l = c.index_mut-l.result.now in
    let h = here_read g.s a cs ls n j (beside_and_atlas i x) r.0 r.1.1.1 l c.index_mut-l.ensures.value in
    h.ready.place

pub mapping-requires-clause-instruction : goal.mapping-requires-clause-instruction
mapping-requires-clause-instruction g c =
    let st = c.args.state.now in
    let r = c.requires in
    let a = atlas_of st.atlas in
    let cs = st.containers.items in
    let ls = st.loci.items in
    let n = c.args.locus in
    let j = c.args.place in
    let x = c.args.container in
    let i = c.args.instr in
    let k = acting_here g.s a cs ls n j (beside_and_atlas i x) r.0 r.1.1.1 in
    let free = allowed_by n (locus_of k.0) (beside_and_atlas i x) k.1.wants refl in
    let born = mapped_container a n (locus_of k.0) i x k.1.sound_here free.free free.is in
    let l = c.index_mut-l.result.now in
    let h = here_read g.s a cs ls n j (beside_and_atlas i x) r.0 r.1.1.1 l c.index_mut-l.ensures.value in
    operands g.s a cs ls n j l (beside_and_atlas i x) h refl

pub mapping-requires-clause-allowed : goal.mapping-requires-clause-allowed
mapping-requires-clause-allowed g c =
    let st = c.args.state.now in
    let r = c.requires in
    let a = atlas_of st.atlas in
    let cs = st.containers.items in
    let ls = st.loci.items in
    let n = c.args.locus in
    let j = c.args.place in
    let x = c.args.container in
    let i = c.args.instr in
    let k = acting_here g.s a cs ls n j (beside_and_atlas i x) r.0 r.1.1.1 in
    let free = allowed_by n (locus_of k.0) (beside_and_atlas i x) k.1.wants refl in
    let born = mapped_container a n (locus_of k.0) i x k.1.sound_here free.free free.is in
    let l = c.index_mut-l.result.now in
    let h = here_read g.s a cs ls n j (beside_and_atlas i x) r.0 r.1.1.1 l c.index_mut-l.ensures.value in
    (allowed_by n (locus_of l) (beside_and_atlas i x) h.wants refl).free

pub mapping-requires-clause-maps : goal.mapping-requires-clause-maps
mapping-requires-clause-maps g c =
    let st = c.args.state.now in
    let r = c.requires in
    let a = atlas_of st.atlas in
    let cs = st.containers.items in
    let ls = st.loci.items in
    let n = c.args.locus in
    let j = c.args.place in
    let x = c.args.container in
    let i = c.args.instr in
    let k = acting_here g.s a cs ls n j (beside_and_atlas i x) r.0 r.1.1.1 in
    let free = allowed_by n (locus_of k.0) (beside_and_atlas i x) k.1.wants refl in
    let born = mapped_container a n (locus_of k.0) i x k.1.sound_here free.free free.is in
    mapping_maps n (locus_of k.0) i x free.is

pub mapping-requires-clause-edges : goal.mapping-requires-clause-edges
mapping-requires-clause-edges g c =
    let st = c.args.state.now in
    let r = c.requires in
    let a = atlas_of st.atlas in
    let cs = st.containers.items in
    let ls = st.loci.items in
    let n = c.args.locus in
    let j = c.args.place in
    let x = c.args.container in
    let i = c.args.instr in
    let k = acting_here g.s a cs ls n j (beside_and_atlas i x) r.0 r.1.1.1 in
    let free = allowed_by n (locus_of k.0) (beside_and_atlas i x) k.1.wants refl in
    let born = mapped_container a n (locus_of k.0) i x k.1.sound_here free.free free.is in
    ready_edges st.atlas (cells_by g.s a cs ls) k.1.sound r.1.1.0

pub mapping-requires-clause-few : goal.mapping-requires-clause-few
mapping-requires-clause-few g c =
    let st = c.args.state.now in
    let r = c.requires in
    let a = atlas_of st.atlas in
    let cs = st.containers.items in
    let ls = st.loci.items in
    let n = c.args.locus in
    let j = c.args.place in
    let x = c.args.container in
    let i = c.args.instr in
    let k = acting_here g.s a cs ls n j (beside_and_atlas i x) r.0 r.1.1.1 in
    let free = allowed_by n (locus_of k.0) (beside_and_atlas i x) k.1.wants refl in
    let born = mapped_container a n (locus_of k.0) i x k.1.sound_here free.free free.is in
    few_edges st.atlas (cells_by g.s a cs ls) k.1.sound

pub returns-in_err-answer-clause-err : goal.returns-in_err-answer-clause-err
returns-in_err-answer-clause-err g c =
    let st = c.args.state.now in
    let r = c.requires in
    let a = atlas_of st.atlas in
    let cs = st.containers.items in
    let ls = st.loci.items in
    let n = c.args.locus in
    let j = c.args.place in
    let x = c.args.container in
    let i = c.args.instr in
    let k = acting_here g.s a cs ls n j (beside_and_atlas i x) r.0 r.1.1.1 in
    let free = allowed_by n (locus_of k.0) (beside_and_atlas i x) k.1.wants refl in
    let born = mapped_container a n (locus_of k.0) i x k.1.sound_here free.free free.is in
    let l = c.index_mut-l.result.now in
    let h = here_read g.s a cs ls n j (beside_and_atlas i x) r.0 r.1.1.1 l c.index_mut-l.ensures.value in
    let q = c.number.result - 1 in
    let at : q ≡ x - 1 = ap (λ m. m - 1) c.number.ensures.number in
    let b = c.index_mut-c.result.now in
    let p = container_at g.s a cs ls n j x q b h.sound born at c.index_mut-c.ensures.value in
    let e = err_from_is_err_and c.from_residual.result c.from_residual.ensures.1 in
    let kept = c.in_err-answer.ensures in
    rw e.1 (record {
      cells = λ y. atlas_same g.s a (atlas_of c.mapping.new.atlas) _ _ y kept.atlas_stays
          ∙ both_kept g.s a cs ls n j l c.mapping.new.l (beside_and_atlas i x) q x b c.mapping.new.c h p (kept.container_stays g.s) kept.locus_stays y;
      versions = refl;
    })

pub entry_of_three-requires-clause-first_apart : goal.entry_of_three-requires-clause-first_apart
entry_of_three-requires-clause-first_apart g c =
    let st = c.args.state.now in
    let r = c.requires in
    let a = atlas_of st.atlas in
    let cs = st.containers.items in
    let ls = st.loci.items in
    let n = c.args.locus in
    let j = c.args.place in
    let x = c.args.container in
    let i = c.args.instr in
    let k = acting_here g.s a cs ls n j (beside_and_atlas i x) r.0 r.1.1.1 in
    let free = allowed_by n (locus_of k.0) (beside_and_atlas i x) k.1.wants refl in
    let born = mapped_container a n (locus_of k.0) i x k.1.sound_here free.free free.is in
    let f = sound_container g.s a cs ls x k.1.sound born in
    f.3

pub entry_of_three-requires-clause-second_apart : goal.entry_of_three-requires-clause-second_apart
entry_of_three-requires-clause-second_apart g c =
    let st = c.args.state.now in
    let r = c.requires in
    let a = atlas_of st.atlas in
    let cs = st.containers.items in
    let ls = st.loci.items in
    let n = c.args.locus in
    let j = c.args.place in
    let x = c.args.container in
    let i = c.args.instr in
    let k = acting_here g.s a cs ls n j (beside_and_atlas i x) r.0 r.1.1.1 in
    let free = allowed_by n (locus_of k.0) (beside_and_atlas i x) k.1.wants refl in
    let born = mapped_container a n (locus_of k.0) i x k.1.sound_here free.free free.is in
    let f = sound_container g.s a cs ls x k.1.sound born in
    omega (arith, f.4, k.1.at)

pub returns-clause-step : goal.returns-clause-step
returns-clause-step g c =
    let st = c.args.state.now in
    let r = c.requires in
    let a = atlas_of st.atlas in
    let cs = st.containers.items in
    let ls = st.loci.items in
    let n = c.args.locus in
    let j = c.args.place in
    let x = c.args.container in
    let i = c.args.instr in
    let k = acting_here g.s a cs ls n j (beside_and_atlas i x) r.0 r.1.1.1 in
    let free = allowed_by n (locus_of k.0) (beside_and_atlas i x) k.1.wants refl in
    let born = mapped_container a n (locus_of k.0) i x k.1.sound_here free.free free.is in
    let l = c.index_mut-l.result.now in
    let h = here_read g.s a cs ls n j (beside_and_atlas i x) r.0 r.1.1.1 l c.index_mut-l.ensures.value in
    let q = c.number.result - 1 in
    let at : q ≡ x - 1 = ap (λ m. m - 1) c.number.ensures.number in
    let b = c.index_mut-c.result.now in
    let p = container_at g.s a cs ls n j x q b h.sound born at c.index_mut-c.ensures.value in
    let us = c.args.versions.now in
    let few : n < length us = search rules in
    rw c.entry_of_three.ensures.versions (stepped_mapping g.s a cs ls n j l c.mapping.new.l (atlas_of c.mapping.new.atlas) i q x b c.mapping.new.c us c.in_ok-answer.answer c.entry_of_three.result h p
    (c.in_ok-answer.ensures.made g.s) c.entry_of_three.ensures.entry few)

pub returns-clause-names : goal.returns-clause-names
returns-clause-names g c =
    let st = c.args.state.now in
    let r = c.requires in
    let a = atlas_of st.atlas in
    let cs = st.containers.items in
    let ls = st.loci.items in
    let n = c.args.locus in
    let j = c.args.place in
    let x = c.args.container in
    let i = c.args.instr in
    let k = acting_here g.s a cs ls n j (beside_and_atlas i x) r.0 r.1.1.1 in
    let free = allowed_by n (locus_of k.0) (beside_and_atlas i x) k.1.wants refl in
    let born = mapped_container a n (locus_of k.0) i x k.1.sound_here free.free free.is in
    let l = c.index_mut-l.result.now in
    let h = here_read g.s a cs ls n j (beside_and_atlas i x) r.0 r.1.1.1 l c.index_mut-l.ensures.value in
    let b = c.index_mut-c.result.now in
    let maps = mapping_maps n (locus_of k.0) i x free.is in
    let acted = c.in_ok-answer.ensures.made g.s in
    subst (λ (b : AtlasState). KeepsNames a b) (sym acted.atlas) (mapping_keeps g.s (locus_of l) a x (container_of g.s b) i maps)

pub returns-in_err-answer-clause-names : goal.returns-in_err-answer-clause-names
returns-in_err-answer-clause-names g c = subst (λ (b : AtlasState). KeepsNames (atlas_of c.args.state.now.atlas) b) (sym c.in_err-answer.ensures.atlas_stays) (keeps_same (atlas_of c.args.state.now.atlas) (atlas_of c.args.state.now.atlas) refl refl)
