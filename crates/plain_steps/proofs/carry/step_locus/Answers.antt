use Rattle.std.proofs.Common.{◌≡◌, ◌-◌, ◌<◌, ◌≤◌, length, rules, arith, ap, sym, subst, ◌∙◌}
use Rattle.base_types.specs.declared.instructions.Reply.TheVariants.{Ok as OkReply}
use Rattle.model_kernel.specs.Acts.{beside}
use Rattle.model_kernel.specs.Outcomes.{finish}
use Rattle.plain_states.specs.Plains.{atlas_of, locus_of}
use Rattle.plain_states.specs.declared.plain.PlainLocus.{PlainLocus}
use Rattle.plain_facts.proofs.PlainSteps.{acting_here, listed, other_at, place_other, still_here, stepped_locus}
use Rattle.plain_steps.proofs.carry.step_locus.Goals as goal

pub index_mut-requires : goal.index_mut-requires
index_mut-requires g c =
    let st = c.args.state.now in
    let r = c.requires in
    let k = acting_here g.s (atlas_of st.atlas) st.containers.items st.loci.items c.args.locus c.args.place (beside c.args.instr c.args.other) r.0 r.1.1.0 in
    let p = (place_other g.s (atlas_of st.atlas) st.containers.items st.loci.items c.args.locus c.args.place k.0 c.args.instr c.args.other k.1 r.1.1.1).0 in
    let lt : c.number.result - 41 < length st.loci.items = omega (arith, p, c.number.ensures.number) in
    search rules

pub index_mut-requires-2 : goal.index_mut-requires-2
index_mut-requires-2 g c =
    let st = c.args.state.now in
    let lt : c.args.place < length st.loci.items = listed g.s (atlas_of st.atlas) st.containers.items st.loci.items c.args.locus c.args.place (beside c.args.instr c.args.other) c.requires.1.1.0 in
    search rules

pub finish-answer-requires : goal.finish-answer-requires
finish-answer-requires g c =
    let st = c.args.state.now in
    let r = c.requires in
    let a = atlas_of st.atlas in
    let cs = st.containers.items in
    let ls = st.loci.items in
    let n = c.args.locus in
    let j = c.args.place in
    let x = c.args.other in
    let q = c.number.result - 41 in
    let i = c.args.instr in
    let k = acting_here g.s a cs ls n j (beside i x) r.0 r.1.1.0 in
    let at : q ≡ x - 41 = ap (λ m. m - 41) c.number.ensures.number in
    let o = other_at g.s a cs ls n j k.0 i x q c.index_mut.result.now k.1 r.1.1.1 at c.index_mut.ensures.value in
    let same : c.index_mut-2.result.now ≡ k.0 = still_here g.s a cs ls n j k.0 i x q c.index_mut.result.now c.control.new.m c.index_mut-2.result.now k.1 o c.index_mut-2.ensures.value in
    subst (λ (m : PlainLocus). record { place : m.place ≤ 128 }) (sym same) (record { place = k.1.ready.place })

pub entry_of_loci-requires-clause-apart : goal.entry_of_loci-requires-clause-apart
entry_of_loci-requires-clause-apart g c e =
    let st = c.args.state.now in
    let r = c.requires in
    let a = atlas_of st.atlas in
    let cs = st.containers.items in
    let ls = st.loci.items in
    let n = c.args.locus in
    let j = c.args.place in
    let x = c.args.other in
    let q = c.number.result - 41 in
    let i = c.args.instr in
    let k = acting_here g.s a cs ls n j (beside i x) r.0 r.1.1.0 in
    let at : q ≡ x - 41 = ap (λ m. m - 41) c.number.ensures.number in
    let o = other_at g.s a cs ls n j k.0 i x q c.index_mut.result.now k.1 r.1.1.1 at c.index_mut.ensures.value in
    o.apart (omega (arith, o.at, k.1.at, e))

pub returns-clause-step : goal.returns-clause-step
returns-clause-step g c =
    let st = c.args.state.now in
    let r = c.requires in
    let a = atlas_of st.atlas in
    let cs = st.containers.items in
    let ls = st.loci.items in
    let us = c.args.versions.now in
    let n = c.args.locus in
    let j = c.args.place in
    let x = c.args.other in
    let q = c.number.result - 41 in
    let i = c.args.instr in
    let k = acting_here g.s a cs ls n j (beside i x) r.0 r.1.1.0 in
    let at : q ≡ x - 41 = ap (λ m. m - 41) c.number.ensures.number in
    let o = other_at g.s a cs ls n j k.0 i x q c.index_mut.result.now k.1 r.1.1.1 at c.index_mut.ensures.value in
    let same : c.index_mut-2.result.now ≡ k.0 = still_here g.s a cs ls n j k.0 i x q c.index_mut.result.now c.control.new.m c.index_mut-2.result.now k.1 o c.index_mut-2.ensures.value in
    let few : n < length us = search rules in
    let more : x < length us = search rules in
    rw c.entry_of_loci.ensures.versions (stepped_locus g.s a cs ls n j k.0 c.finish-answer.new.l i q x c.index_mut.result.now c.control.new.m us c.finish-answer.result c.entry_of_loci.result k.1 o
    c.control.ensures (c.finish-answer.ensures.locus ∙ ap (λ (m : PlainLocus). finish (locus_of m) OkReply) same) c.finish-answer.ensures.answer c.entry_of_loci.ensures.entry few more)
