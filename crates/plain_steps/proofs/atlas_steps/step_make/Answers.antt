use Rattle.std.proofs.Common.{◌≡◌, ◌+◌, ◌<◌, ◌++◌, List, [], ◌∷◌, Some, None, length, string_bytes, rules, arith, refl, ap, sym, subst, ◌∙◌}
use Rattle.std.proofs.lemmas.List.{length-map}
use Rattle.base_types.specs.Instructions.{IsInstruction}
use Rattle.base_types.specs.declared.entities.Kind.TheVariants.{Container}
use Rattle.model_kernel.specs.Acts.{bearing}
use Rattle.model_kernel.specs.Outcomes.{make}
use Rattle.model_kernel.specs.State.{AtlasState, ContainerCell}
use Rattle.plain_states.specs.Entries.{step_entry, versions_after}
use Rattle.plain_states.specs.model_sound_runs.Names.{KeepsNames}
use Rattle.plain_states.specs.Plains.{atlas_of, container_of, locus_of}
use Rattle.plain_states.specs.declared.entries.Mark.{Mark}
use Rattle.plain_states.specs.declared.plain.PlainContainer.{PlainContainer}
use Rattle.plain_states.proofs.PlainBirths.{containers_named}
use Rattle.plain_states.proofs.model_act_facts_lemmas.WantLemmas.{allowed_by, bears_by, make_pages}
use Rattle.plain_facts.specs.AtlasActs.{ActedOnAtlas}
use Rattle.plain_states.proofs.model_sound_runs_lemmas.Naming.{make_keeps}
use Rattle.plain_facts.proofs.AtlasSteps.{bears_make, made_free, made_none, made_some, stepped_full, stepped_made}
use Rattle.plain_facts.proofs.PlainSteps.{acting_here, here_read, listed, operands, written_mark}
use Rattle.plain_steps.proofs.atlas_steps.step_make.Goals as goal

pub unreachable-requires : goal.unreachable-requires
unreachable-requires g c =
    let st = c.args.state.now in
    let r = c.requires in
    let a = atlas_of st.atlas in
    let cs = st.containers.items in
    let ls = st.loci.items in
    let n = c.args.locus in
    let j = c.args.place in
    let i = c.args.instr in
    let k = acting_here g.s a cs ls n j (bearing i Container) r.0 r.1.1 in
    let free = allowed_by n (locus_of k.0) (bearing i Container) k.1.wants refl in
    bears_by n (locus_of k.0) i Container free.is (λ d m t e is _. c.in_default.not-Make d m t e is) (λ d p is kind. cc)

pub index_mut-l-requires : goal.index_mut-l-requires
index_mut-l-requires g c =
    let st = c.args.state.now in
    let lt : c.args.place < length st.loci.items = listed g.s (atlas_of st.atlas) st.containers.items st.loci.items c.args.locus c.args.place (bearing c.args.instr Container) c.requires.1.1 in
    search rules

pub register-pages-requires : goal.register-pages-requires
register-pages-requires g c =
    let st = c.args.state.now in
    let r = c.requires in
    let a = atlas_of st.atlas in
    let cs = st.containers.items in
    let ls = st.loci.items in
    let n = c.args.locus in
    let j = c.args.place in
    let i = c.args.instr in
    let l = c.index_mut-l.result.now in
    let h = here_read g.s a cs ls n j (bearing i Container) r.0 r.1.1 l c.index_mut-l.ensures.value in
    (subst IsInstruction c.in-Make.is (operands g.s a cs ls n j l (bearing i Container) h refl)).1

pub register-tag-requires : goal.register-tag-requires
register-tag-requires g c =
    let st = c.args.state.now in
    let r = c.requires in
    let a = atlas_of st.atlas in
    let cs = st.containers.items in
    let ls = st.loci.items in
    let n = c.args.locus in
    let j = c.args.place in
    let i = c.args.instr in
    let l = c.index_mut-l.result.now in
    let h = here_read g.s a cs ls n j (bearing i Container) r.0 r.1.1 l c.index_mut-l.ensures.value in
    (subst IsInstruction c.in-Make.is (operands g.s a cs ls n j l (bearing i Container) h refl)).2

pub make-requires-clause-register : goal.make-requires-clause-register
make-requires-clause-register g c =
    let st = c.args.state.now in
    let r = c.requires in
    let a = atlas_of st.atlas in
    let cs = st.containers.items in
    let ls = st.loci.items in
    let n = c.args.locus in
    let j = c.args.place in
    let i = c.args.instr in
    let l = c.index_mut-l.result.now in
    let h = here_read g.s a cs ls n j (bearing i Container) r.0 r.1.1 l c.index_mut-l.ensures.value in
    (subst IsInstruction c.in-Make.is (operands g.s a cs ls n j l (bearing i Container) h refl)).0

pub overflow_cast-pages : goal.overflow_cast-pages
overflow_cast-pages g c =
    let st = c.args.state.now in
    let r = c.requires in
    let a = atlas_of st.atlas in
    let cs = st.containers.items in
    let ls = st.loci.items in
    let n = c.args.locus in
    let j = c.args.place in
    let i = c.args.instr in
    let l = c.index_mut-l.result.now in
    let h = here_read g.s a cs ls n j (bearing i Container) r.0 r.1.1 l c.index_mut-l.ensures.value in
    let free = allowed_by n (locus_of l) (bearing i Container) h.wants refl in
    let few = make_pages (locus_of l) i _ c.in-Make.n _ _ c.in-Make.is free.free in
    omega (arith, few, c.register-pages.ensures)

pub make-requires-clause-place : goal.make-requires-clause-place
make-requires-clause-place g c =
    let st = c.args.state.now in
    let r = c.requires in
    let a = atlas_of st.atlas in
    let cs = st.containers.items in
    let ls = st.loci.items in
    let n = c.args.locus in
    let j = c.args.place in
    let i = c.args.instr in
    let l = c.index_mut-l.result.now in
    let h = here_read g.s a cs ls n j (bearing i Container) r.0 r.1.1 l c.index_mut-l.ensures.value in
    h.ready.place

pub make-requires-clause-slots : goal.make-requires-clause-slots
make-requires-clause-slots g c =
    let st = c.args.state.now in
    let r = c.requires in
    let a = atlas_of st.atlas in
    let cs = st.containers.items in
    let ls = st.loci.items in
    let n = c.args.locus in
    let j = c.args.place in
    let i = c.args.instr in
    let l = c.index_mut-l.result.now in
    let h = here_read g.s a cs ls n j (bearing i Container) r.0 r.1.1 l c.index_mut-l.ensures.value in
    h.sound_here.caps.slots

pub returns-in_default-newborn-clause-step : goal.returns-in_default-newborn-clause-step
returns-in_default-newborn-clause-step g c =
    let st = c.args.state.now in
    let r = c.requires in
    let a = atlas_of st.atlas in
    let cs = st.containers.items in
    let ls = st.loci.items in
    let n = c.args.locus in
    let j = c.args.place in
    let i = c.args.instr in
    let l = c.index_mut-l.result.now in
    let h = here_read g.s a cs ls n j (bearing i Container) r.0 r.1.1 l c.index_mut-l.ensures.value in
    let us = c.args.versions.now in
    let few : n < length us = search rules in
    let L = locus_of l in
    let o = make g.s L a c.in-Make.d c.register-pages.result c.register-tag.result c.in-Make.entry in
    let acted : ActedOnAtlas o (locus_of c.make.new.l) (atlas_of c.make.new.atlas) None c.in_ok-answer.field-0.answer =
    made_none g.s st.atlas o _ _ c.in_ok-answer.field-0.newborn _ _ (λ b is. c.in_default-newborn.not-Some b is) (c.in_ok-answer.ensures.made g.s) refl in
    let first : c.wrote.result ≡ written_mark 0 = c.wrote.ensures in
    let second : c.wrote-in_default-newborn.result ≡ written_mark n = c.wrote-in_default-newborn.ensures in
    let marks : c.wrote.result ∷ c.wrote-in_default-newborn.result ∷ [] ≡ written_mark 0 ∷ written_mark n ∷ [] = (λ t. first t ∷ second t ∷ []) in
    let entry = c.entry_of_two.ensures.entry ∙ ap (λ (marks : List Mark). step_entry us n marks c.in_ok-answer.field-0.answer) marks in
    let versions = c.entry_of_two.ensures.versions ∙ ap (versions_after us) marks in
    let makes = bears_make g.s L a i c.in-Make.d c.in-Make.n c.in-Make.t c.register-pages.result c.register-tag.result c.in-Make.entry c.in-Make.is c.register-pages.ensures c.register-tag.ensures in
    rw (versions, c.reserve.ensures.items) (stepped_full g.s a cs ls n j l c.make.new.l (atlas_of c.make.new.atlas) i Container o us c.in_ok-answer.field-0.answer c.entry_of_two.result h makes acted entry few)

pub returns-in_default-newborn-clause-names : goal.returns-in_default-newborn-clause-names
returns-in_default-newborn-clause-names g c =
    let st = c.args.state.now in
    let r = c.requires in
    let a = atlas_of st.atlas in
    let cs = st.containers.items in
    let ls = st.loci.items in
    let n = c.args.locus in
    let j = c.args.place in
    let i = c.args.instr in
    let l = c.index_mut-l.result.now in
    let h = here_read g.s a cs ls n j (bearing i Container) r.0 r.1.1 l c.index_mut-l.ensures.value in
    let given = c.in_ok-answer.ensures.made g.s in
    subst (λ (b : AtlasState). KeepsNames a b) (sym given.atlas) (make_keeps g.s (locus_of l) a c.in-Make.d c.register-pages.result c.register-tag.result c.in-Make.entry)

pub returns-clause-names : goal.returns-clause-names
returns-clause-names g c =
    let st = c.args.state.now in
    let r = c.requires in
    let a = atlas_of st.atlas in
    let cs = st.containers.items in
    let ls = st.loci.items in
    let n = c.args.locus in
    let j = c.args.place in
    let i = c.args.instr in
    let l = c.index_mut-l.result.now in
    let h = here_read g.s a cs ls n j (bearing i Container) r.0 r.1.1 l c.index_mut-l.ensures.value in
    let given = c.in_ok-answer.ensures.made g.s in
    subst (λ (b : AtlasState). KeepsNames a b) (sym given.atlas) (make_keeps g.s (locus_of l) a c.in-Make.d c.register-pages.result c.register-tag.result c.in-Make.entry)

pub last_container-number-requires : goal.last_container-number-requires
last_container-number-requires g c =
    let st = c.args.state.now in
    let r = c.requires in
    let a = atlas_of st.atlas in
    let cs = st.containers.items in
    let ls = st.loci.items in
    let n = c.args.locus in
    let j = c.args.place in
    let i = c.args.instr in
    let l = c.index_mut-l.result.now in
    let h = here_read g.s a cs ls n j (bearing i Container) r.0 r.1.1 l c.index_mut-l.ensures.value in
    let L = locus_of l in
    let o = make g.s L a c.in-Make.d c.register-pages.result c.register-tag.result c.in-Make.entry in
    let is : c.in_ok-answer.field-0.newborn ≡ Some c.in-Some.container = c.in-Some.is in
    let given = c.in_ok-answer.ensures.made g.s in
    let acted : ActedOnAtlas o (locus_of c.make.new.l) (atlas_of c.make.new.atlas) (Some (length a.containers + 1, ContainerCell (container_of g.s c.in-Some.container))) c.in_ok-answer.field-0.answer =
    made_some g.s st.atlas o _ _ c.in_ok-answer.field-0.newborn c.in-Some.container _ _ is given refl in
    let free = made_free g.s L a c.in-Make.d c.register-pages.result c.register-tag.result c.in-Make.entry _ acted.newborn in
    let named : length c.make.new.atlas.containers.items ≡ length a.containers + 1 = sym (length-map c.make.new.atlas.containers.items string_bytes) ∙ ap (λ (b : AtlasState). length b.containers) acted.atlas ∙ free.1 in
    omega (arith, named, free.0)

pub entry_of_three-requires-clause-first_apart : goal.entry_of_three-requires-clause-first_apart
entry_of_three-requires-clause-first_apart g c =
    let st = c.args.state.now in
    let r = c.requires in
    let a = atlas_of st.atlas in
    let cs = st.containers.items in
    let ls = st.loci.items in
    let n = c.args.locus in
    let j = c.args.place in
    let i = c.args.instr in
    let l = c.index_mut-l.result.now in
    let h = here_read g.s a cs ls n j (bearing i Container) r.0 r.1.1 l c.index_mut-l.ensures.value in
    let L = locus_of l in
    let o = make g.s L a c.in-Make.d c.register-pages.result c.register-tag.result c.in-Make.entry in
    let is : c.in_ok-answer.field-0.newborn ≡ Some c.in-Some.container = c.in-Some.is in
    let given = c.in_ok-answer.ensures.made g.s in
    let acted : ActedOnAtlas o (locus_of c.make.new.l) (atlas_of c.make.new.atlas) (Some (length a.containers + 1, ContainerCell (container_of g.s c.in-Some.container))) c.in_ok-answer.field-0.answer =
    made_some g.s st.atlas o _ _ c.in_ok-answer.field-0.newborn c.in-Some.container _ _ is given refl in
    let free = made_free g.s L a c.in-Make.d c.register-pages.result c.register-tag.result c.in-Make.entry _ acted.newborn in
    let named : length c.make.new.atlas.containers.items ≡ length a.containers + 1 = sym (length-map c.make.new.atlas.containers.items string_bytes) ∙ ap (λ (b : AtlasState). length b.containers) acted.atlas ∙ free.1 in
    omega (arith, named, c.last_container-number.ensures)

pub entry_of_three-requires-clause-second_apart : goal.entry_of_three-requires-clause-second_apart
entry_of_three-requires-clause-second_apart g c =
    let st = c.args.state.now in
    let r = c.requires in
    let a = atlas_of st.atlas in
    let cs = st.containers.items in
    let ls = st.loci.items in
    let n = c.args.locus in
    let j = c.args.place in
    let i = c.args.instr in
    let l = c.index_mut-l.result.now in
    let h = here_read g.s a cs ls n j (bearing i Container) r.0 r.1.1 l c.index_mut-l.ensures.value in
    let L = locus_of l in
    let o = make g.s L a c.in-Make.d c.register-pages.result c.register-tag.result c.in-Make.entry in
    let is : c.in_ok-answer.field-0.newborn ≡ Some c.in-Some.container = c.in-Some.is in
    let given = c.in_ok-answer.ensures.made g.s in
    let acted : ActedOnAtlas o (locus_of c.make.new.l) (atlas_of c.make.new.atlas) (Some (length a.containers + 1, ContainerCell (container_of g.s c.in-Some.container))) c.in_ok-answer.field-0.answer =
    made_some g.s st.atlas o _ _ c.in_ok-answer.field-0.newborn c.in-Some.container _ _ is given refl in
    let free = made_free g.s L a c.in-Make.d c.register-pages.result c.register-tag.result c.in-Make.entry _ acted.newborn in
    let named : length c.make.new.atlas.containers.items ≡ length a.containers + 1 = sym (length-map c.make.new.atlas.containers.items string_bytes) ∙ ap (λ (b : AtlasState). length b.containers) acted.atlas ∙ free.1 in
    omega (arith, named, free.0, c.last_container-number.ensures, h.at)

pub returns-clause-step : goal.returns-clause-step
returns-clause-step g c =
    let st = c.args.state.now in
    let r = c.requires in
    let a = atlas_of st.atlas in
    let cs = st.containers.items in
    let ls = st.loci.items in
    let n = c.args.locus in
    let j = c.args.place in
    let i = c.args.instr in
    let l = c.index_mut-l.result.now in
    let h = here_read g.s a cs ls n j (bearing i Container) r.0 r.1.1 l c.index_mut-l.ensures.value in
    let L = locus_of l in
    let o = make g.s L a c.in-Make.d c.register-pages.result c.register-tag.result c.in-Make.entry in
    let is : c.in_ok-answer.field-0.newborn ≡ Some c.in-Some.container = c.in-Some.is in
    let given = c.in_ok-answer.ensures.made g.s in
    let acted : ActedOnAtlas o (locus_of c.make.new.l) (atlas_of c.make.new.atlas) (Some (length a.containers + 1, ContainerCell (container_of g.s c.in-Some.container))) c.in_ok-answer.field-0.answer =
    made_some g.s st.atlas o _ _ c.in_ok-answer.field-0.newborn c.in-Some.container _ _ is given refl in
    let free = made_free g.s L a c.in-Make.d c.register-pages.result c.register-tag.result c.in-Make.entry _ acted.newborn in
    let named : length c.make.new.atlas.containers.items ≡ length a.containers + 1 = sym (length-map c.make.new.atlas.containers.items string_bytes) ∙ ap (λ (b : AtlasState). length b.containers) acted.atlas ∙ free.1 in
    let us = c.args.versions.now in
    let few : n < length us = search rules in
    let x = length a.containers + 1 in
    let number : c.last_container-number.result ≡ x = c.last_container-number.ensures ∙ named in
    let count : length cs ≡ length a.containers = containers_named g.s a cs ls h.sound free.0 in
    let at : x ≡ length cs + 1 = omega (arith, count) in
    let small : x < 41 = omega (arith, free.0) in
    let marks : written_mark 0 ∷ written_mark c.last_container-number.result ∷ written_mark n ∷ [] ≡ written_mark 0 ∷ written_mark x ∷ written_mark n ∷ [] = (λ t. written_mark 0 ∷ written_mark (number t) ∷ written_mark n ∷ []) in
    let entry = c.entry_of_three.ensures.entry ∙ ap (λ (marks : List Mark). step_entry us n marks c.in_ok-answer.field-0.answer) marks in
    let versions = c.entry_of_three.ensures.versions ∙ ap (versions_after us) marks in
    let makes = bears_make g.s L a i c.in-Make.d c.in-Make.n c.in-Make.t c.register-pages.result c.register-tag.result c.in-Make.entry c.in-Make.is c.register-pages.ensures c.register-tag.ensures in
    let grown : c.push_within.new.list.items ≡ cs ++ c.in-Some.container ∷ [] = c.push_within.ensures ∙ ap (λ (xs : List PlainContainer). xs ++ c.in-Some.container ∷ []) c.reserve.ensures.items in
    rw (versions, grown) (stepped_made g.s a cs ls n j l c.make.new.l (atlas_of c.make.new.atlas) i Container o x c.in-Some.container us c.in_ok-answer.field-0.answer c.entry_of_three.result h makes acted at small entry few)
