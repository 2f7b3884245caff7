use Rattle.std.proofs.Common.{◌≡◌, List, length, Some, slice_get, refl, sym, ap, subst, ◌∙◌}
use Rattle.std.proofs.lemmas.Option.{slice_get_read, slice_get_within}
use Rattle.base_types.specs.declared.instructions.Condition.TheVariants.{Running}
use Rattle.model_kernel.specs.Acts.{wanted}
use Rattle.model_acts.specs.Views.{IsReadyLocus, act_of}
use Rattle.model_acts.proofs.Ready.{ready}
use Rattle.plain_states.specs.Lists.{IsActingAt, IsRunningAt}
use Rattle.plain_states.specs.Plains.{atlas_of, cells_of, locus_of}
use Rattle.plain_states.specs.declared.plain.PlainLocus.{PlainLocus}
use Rattle.plain_states.proofs.SoundLemmas.{sound_here, sound_locus}
use Rattle.plain_facts.proofs.PlainSteps.{same_sound, stepped_sound}
use Rattle.plain_steps.proofs.steps.plain_step.Goals as goal

pub wants-requires : goal.wants-requires
wants-requires g c =
    let r = c.requires.1.1.1 in
    let st = c.args.state.now in
    let a = atlas_of st.atlas in
    let ls = st.loci.items in
    let cs = st.containers.items in
    let j = c.in-Some.place in
    let l = c.index.result.now in
    let at : IsRunningAt ls c.args.locus j = subst (λ (ls : List PlainLocus). IsRunningAt ls c.args.locus j) c.deref.ensures.value c.in-Some.ensures.found in
    let is : slice_get ls j ≡ Some l = slice_get_read ls (length ls) j l refl (slice_get_within ls j at.locus at.is) c.index.ensures in
    subst IsReadyLocus (sym c.view.ensures) (ready a (locus_of l) (sound_locus g.s a cs ls j l (sound_here g.s a cs ls r.0) is))

pub carry_out-requires : goal.carry_out-requires
carry_out-requires g c κs within =
    let r = c.requires.1.1.1 in
    let st = c.args.state.now in
    let ls = st.loci.items in
    let n = c.args.locus in
    let j = c.in-Some.place in
    let l = c.index.result.now in
    let at : IsRunningAt ls n j = subst (λ (ls : List PlainLocus). IsRunningAt ls n j) c.deref.ensures.value c.in-Some.ensures.found in
    let is : slice_get ls j ≡ Some l = slice_get_read ls (length ls) j l refl (slice_get_within ls j at.locus at.is) c.index.ensures in
    let same : at.locus ≡ l = some_is at.locus l (sym at.is ∙ is) in
    let acting : IsActingAt ls n j (act_of c.seen_by-act.result) = record {
      at = at.at;
      locus = l;
      is = is;
      runs = subst (λ (m : PlainLocus). m.condition ≡ Running) same at.runs;
      wants = ap (wanted n) (sym c.view.ensures) ∙ c.wants.ensures.seen n ∙ sym c.seen_by-act.ensures.act;
    } in
    (λ a mem. within a mem, (c.requires.1.0, (c.requires.1.1.0, (r.0, (r.1.0, (r.1.1, acting))))))
  where
    some_is : (l m : PlainLocus) → Some l ≡ Some m → l ≡ m
    some_is l m e = cc

pub returns-in_err-entry-clause-sound : goal.returns-in_err-entry-clause-sound
returns-in_err-entry-clause-sound g c = same_sound (cells_of g.s c.args.state.now) (cells_of g.s c.carry_out.new.state) c.in_err-entry.ensures.err.cells c.requires.1.1.1.0

pub returns-clause-sound : goal.returns-clause-sound
returns-clause-sound g c = stepped_sound g.s c.args.locus (cells_of g.s c.args.state.now) (cells_of g.s c.carry_out.new.state) c.args.versions.now c.carry_out.new.versions c.in_ok-entry.entry c.in_ok-entry.ensures.step c.requires.1.1.1.0
