use Rattle.std.proofs.Common.{◌≡◌, ◌+◌, ◌<◌, ◌++◌, List, [], ◌∷◌, Some, None, length, string_bytes, get_or, slice_set, rules, arith, refl, ap, sym, subst, ◌∙◌}
use Rattle.std.proofs.lemmas.List.{length-map}
use Rattle.base_types.specs.Instructions.{IsInstruction}
use Rattle.base_types.specs.declared.entities.Kind.TheVariants.{Locus}
use Rattle.model_kernel.specs.Acts.{bearing}
use Rattle.model_kernel.specs.Outcomes.{spawn}
use Rattle.model_kernel.specs.State.{AtlasState, LocusCell}
use Rattle.plain_states.specs.Entries.{step_entry, versions_after}
use Rattle.plain_states.specs.model_sound_runs.Names.{KeepsNames}
use Rattle.plain_states.specs.Plains.{atlas_of, locus_of}
use Rattle.plain_states.specs.declared.entries.Mark.{Mark}
use Rattle.plain_states.specs.declared.plain.PlainLocus.{PlainLocus}
use Rattle.plain_states.proofs.PlainBirths.{loci_named}
use Rattle.plain_states.proofs.model_act_facts_lemmas.WantLemmas.{allowed_by, bears_by}
use Rattle.plain_facts.specs.AtlasActs.{ActedOnAtlas}
use Rattle.plain_states.proofs.model_sound_runs_lemmas.Naming.{spawn_keeps}
use Rattle.plain_facts.proofs.AtlasSteps.{bears_spawn, spawned_free, spawned_none, spawned_some, stepped_full, stepped_spawned}
use Rattle.plain_facts.proofs.PlainSteps.{acting_here, here_read, listed, operands, written_mark}
use Rattle.plain_steps.proofs.atlas_steps.step_spawn.Goals as goal

pub unreachable-requires : goal.unreachable-requires
unreachable-requires g c =
    let st = c.args.state.now in
    let r = c.requires in
    let a = atlas_of st.atlas in
    let cs = st.containers.items in
    let ls = st.loci.items in
    let n = c.args.locus in
    let j = c.args.place in
    let i = c.args.instr in
    let k = acting_here g.s a cs ls n j (bearing i Locus) r.0 r.1.1 in
    let free = allowed_by n (locus_of k.0) (bearing i Locus) k.1.wants refl in
    bears_by n (locus_of k.0) i Locus free.is (λ d m t e is kind. cc) (λ d p is _. c.in_default.not-Spawn d p is)

pub index_mut-l-requires : goal.index_mut-l-requires
index_mut-l-requires g c =
    let st = c.args.state.now in
    let r = c.requires in
    let within : c.args.place < length st.loci.items = listed g.s (atlas_of st.atlas) st.containers.items st.loci.items c.args.locus c.args.place (bearing c.args.instr Locus) r.1.1 in
    let lt : c.args.place < length c.reserve.new.self.items = subst (λ (xs : List PlainLocus). c.args.place < length xs) (sym c.reserve.ensures.items) within in
    search rules

pub spawn-requires-clause-place : goal.spawn-requires-clause-place
spawn-requires-clause-place g c =
    let st = c.args.state.now in
    let r = c.requires in
    let a = atlas_of st.atlas in
    let cs = st.containers.items in
    let ls = st.loci.items in
    let n = c.args.locus in
    let j = c.args.place in
    let i = c.args.instr in
    let ls2 = c.reserve.new.self.items in
    let items : ls2 ≡ ls = c.reserve.ensures.items in
    let l = c.index_mut-l.result.now in
    let h = here_read g.s a cs ls n j (bearing i Locus) r.0 r.1.1 l (c.index_mut-l.ensures.value ∙ ap (λ (xs : List PlainLocus). get_or xs j l) items) in
    h.ready.place

pub spawn-requires-clause-register : goal.spawn-requires-clause-register
spawn-requires-clause-register g c =
    let st = c.args.state.now in
    let r = c.requires in
    let a = atlas_of st.atlas in
    let cs = st.containers.items in
    let ls = st.loci.items in
    let n = c.args.locus in
    let j = c.args.place in
    let i = c.args.instr in
    let ls2 = c.reserve.new.self.items in
    let items : ls2 ≡ ls = c.reserve.ensures.items in
    let l = c.index_mut-l.result.now in
    let h = here_read g.s a cs ls n j (bearing i Locus) r.0 r.1.1 l (c.index_mut-l.ensures.value ∙ ap (λ (xs : List PlainLocus). get_or xs j l) items) in
    (subst IsInstruction c.in-Spawn.is (operands g.s a cs ls n j l (bearing i Locus) h refl)).0

pub spawn-requires-clause-slots : goal.spawn-requires-clause-slots
spawn-requires-clause-slots g c =
    let st = c.args.state.now in
    let r = c.requires in
    let a = atlas_of st.atlas in
    let cs = st.containers.items in
    let ls = st.loci.items in
    let n = c.args.locus in
    let j = c.args.place in
    let i = c.args.instr in
    let ls2 = c.reserve.new.self.items in
    let items : ls2 ≡ ls = c.reserve.ensures.items in
    let l = c.index_mut-l.result.now in
    let h = here_read g.s a cs ls n j (bearing i Locus) r.0 r.1.1 l (c.index_mut-l.ensures.value ∙ ap (λ (xs : List PlainLocus). get_or xs j l) items) in
    h.sound_here.caps.slots

pub returns-in_default-newborn-clause-step : goal.returns-in_default-newborn-clause-step
returns-in_default-newborn-clause-step g c =
    let st = c.args.state.now in
    let r = c.requires in
    let a = atlas_of st.atlas in
    let cs = st.containers.items in
    let ls = st.loci.items in
    let n = c.args.locus in
    let j = c.args.place in
    let i = c.args.instr in
    let ls2 = c.reserve.new.self.items in
    let items : ls2 ≡ ls = c.reserve.ensures.items in
    let l = c.index_mut-l.result.now in
    let h = here_read g.s a cs ls n j (bearing i Locus) r.0 r.1.1 l (c.index_mut-l.ensures.value ∙ ap (λ (xs : List PlainLocus). get_or xs j l) items) in
    let us = c.args.versions.now in
    let few : n < length us = search rules in
    let L = locus_of l in
    let o = spawn L a c.in-Spawn.d c.in-Spawn.p in
    let acted : ActedOnAtlas o (locus_of c.spawn.new.l) (atlas_of c.spawn.new.atlas) None c.in_ok-answer.field-0.answer =
    spawned_none st.atlas o _ _ c.in_ok-answer.field-0.newborn _ _ (λ b is. c.in_default-newborn.not-Some b is) c.in_ok-answer.ensures.made refl in
    let first : c.wrote.result ≡ written_mark 0 = c.wrote.ensures in
    let second : c.wrote-in_default-newborn.result ≡ written_mark n = c.wrote-in_default-newborn.ensures in
    let marks : c.wrote.result ∷ c.wrote-in_default-newborn.result ∷ [] ≡ written_mark 0 ∷ written_mark n ∷ [] = (λ t. first t ∷ second t ∷ []) in
    let entry = c.entry_of_two.ensures.entry ∙ ap (λ (marks : List Mark). step_entry us n marks c.in_ok-answer.field-0.answer) marks in
    let versions = c.entry_of_two.ensures.versions ∙ ap (versions_after us) marks in
    let makes = bears_spawn g.s L a i c.in-Spawn.d c.in-Spawn.p c.in-Spawn.is in
    rw (versions, items) (stepped_full g.s a cs ls n j l c.spawn.new.l (atlas_of c.spawn.new.atlas) i Locus o us c.in_ok-answer.field-0.answer c.entry_of_two.result h makes acted entry few)

pub returns-in_default-newborn-clause-names : goal.returns-in_default-newborn-clause-names
returns-in_default-newborn-clause-names g c =
    let st = c.args.state.now in
    let r = c.requires in
    let a = atlas_of st.atlas in
    let cs = st.containers.items in
    let ls = st.loci.items in
    let n = c.args.locus in
    let j = c.args.place in
    let i = c.args.instr in
    let ls2 = c.reserve.new.self.items in
    let items : ls2 ≡ ls = c.reserve.ensures.items in
    let l = c.index_mut-l.result.now in
    let h = here_read g.s a cs ls n j (bearing i Locus) r.0 r.1.1 l (c.index_mut-l.ensures.value ∙ ap (λ (xs : List PlainLocus). get_or xs j l) items) in
    subst (λ (b : AtlasState). KeepsNames a b) (sym c.in_ok-answer.ensures.made.atlas) (spawn_keeps (locus_of l) a c.in-Spawn.d c.in-Spawn.p)

pub returns-clause-names : goal.returns-clause-names
returns-clause-names g c =
    let st = c.args.state.now in
    let r = c.requires in
    let a = atlas_of st.atlas in
    let cs = st.containers.items in
    let ls = st.loci.items in
    let n = c.args.locus in
    let j = c.args.place in
    let i = c.args.instr in
    let ls2 = c.reserve.new.self.items in
    let items : ls2 ≡ ls = c.reserve.ensures.items in
    let l = c.index_mut-l.result.now in
    let h = here_read g.s a cs ls n j (bearing i Locus) r.0 r.1.1 l (c.index_mut-l.ensures.value ∙ ap (λ (xs : List PlainLocus). get_or xs j l) items) in
    subst (λ (b : AtlasState). KeepsNames a b) (sym c.in_ok-answer.ensures.made.atlas) (spawn_keeps (locus_of l) a c.in-Spawn.d c.in-Spawn.p)

pub last_locus-number-requires : goal.last_locus-number-requires
last_locus-number-requires g c =
    let st = c.args.state.now in
    let r = c.requires in
    let a = atlas_of st.atlas in
    let cs = st.containers.items in
    let ls = st.loci.items in
    let n = c.args.locus in
    let j = c.args.place in
    let i = c.args.instr in
    let ls2 = c.reserve.new.self.items in
    let items : ls2 ≡ ls = c.reserve.ensures.items in
    let l = c.index_mut-l.result.now in
    let h = here_read g.s a cs ls n j (bearing i Locus) r.0 r.1.1 l (c.index_mut-l.ensures.value ∙ ap (λ (xs : List PlainLocus). get_or xs j l) items) in
    let L = locus_of l in
    let o = spawn L a c.in-Spawn.d c.in-Spawn.p in
    let is : c.in_ok-answer.field-0.newborn ≡ Some c.in-Some.spawned = c.in-Some.is in
    let acted : ActedOnAtlas o (locus_of c.spawn.new.l) (atlas_of c.spawn.new.atlas) (Some (length a.loci + 41, LocusCell (locus_of c.in-Some.spawned))) c.in_ok-answer.field-0.answer =
    spawned_some st.atlas o _ _ c.in_ok-answer.field-0.newborn c.in-Some.spawned _ _ is c.in_ok-answer.ensures.made refl in
    let free = spawned_free L a c.in-Spawn.d c.in-Spawn.p _ acted.newborn in
    let named : length c.spawn.new.atlas.loci.items ≡ length a.loci + 1 = sym (length-map c.spawn.new.atlas.loci.items string_bytes) ∙ ap (λ (b : AtlasState). length b.loci) acted.atlas ∙ free.1 in
    omega (arith, named, free.0)

pub entry_of_three-requires-clause-second_apart : goal.entry_of_three-requires-clause-second_apart
entry_of_three-requires-clause-second_apart g c =
    let st = c.args.state.now in
    let r = c.requires in
    let a = atlas_of st.atlas in
    let cs = st.containers.items in
    let ls = st.loci.items in
    let n = c.args.locus in
    let j = c.args.place in
    let i = c.args.instr in
    let ls2 = c.reserve.new.self.items in
    let items : ls2 ≡ ls = c.reserve.ensures.items in
    let l = c.index_mut-l.result.now in
    let h = here_read g.s a cs ls n j (bearing i Locus) r.0 r.1.1 l (c.index_mut-l.ensures.value ∙ ap (λ (xs : List PlainLocus). get_or xs j l) items) in
    let L = locus_of l in
    let o = spawn L a c.in-Spawn.d c.in-Spawn.p in
    let is : c.in_ok-answer.field-0.newborn ≡ Some c.in-Some.spawned = c.in-Some.is in
    let acted : ActedOnAtlas o (locus_of c.spawn.new.l) (atlas_of c.spawn.new.atlas) (Some (length a.loci + 41, LocusCell (locus_of c.in-Some.spawned))) c.in_ok-answer.field-0.answer =
    spawned_some st.atlas o _ _ c.in_ok-answer.field-0.newborn c.in-Some.spawned _ _ is c.in_ok-answer.ensures.made refl in
    let free = spawned_free L a c.in-Spawn.d c.in-Spawn.p _ acted.newborn in
    let named : length c.spawn.new.atlas.loci.items ≡ length a.loci + 1 = sym (length-map c.spawn.new.atlas.loci.items string_bytes) ∙ ap (λ (b : AtlasState). length b.loci) acted.atlas ∙ free.1 in
    let count : length ls ≡ length a.loci = loci_named g.s a cs ls h.sound free.0 in
    omega (arith, named, c.last_locus-number.ensures, h.at, h.in_list, count)

pub returns-clause-step : goal.returns-clause-step
returns-clause-step g c =
    let st = c.args.state.now in
    let r = c.requires in
    let a = atlas_of st.atlas in
    let cs = st.containers.items in
    let ls = st.loci.items in
    let n = c.args.locus in
    let j = c.args.place in
    let i = c.args.instr in
    let ls2 = c.reserve.new.self.items in
    let items : ls2 ≡ ls = c.reserve.ensures.items in
    let l = c.index_mut-l.result.now in
    let h = here_read g.s a cs ls n j (bearing i Locus) r.0 r.1.1 l (c.index_mut-l.ensures.value ∙ ap (λ (xs : List PlainLocus). get_or xs j l) items) in
    let L = locus_of l in
    let o = spawn L a c.in-Spawn.d c.in-Spawn.p in
    let is : c.in_ok-answer.field-0.newborn ≡ Some c.in-Some.spawned = c.in-Some.is in
    let acted : ActedOnAtlas o (locus_of c.spawn.new.l) (atlas_of c.spawn.new.atlas) (Some (length a.loci + 41, LocusCell (locus_of c.in-Some.spawned))) c.in_ok-answer.field-0.answer =
    spawned_some st.atlas o _ _ c.in_ok-answer.field-0.newborn c.in-Some.spawned _ _ is c.in_ok-answer.ensures.made refl in
    let free = spawned_free L a c.in-Spawn.d c.in-Spawn.p _ acted.newborn in
    let named : length c.spawn.new.atlas.loci.items ≡ length a.loci + 1 = sym (length-map c.spawn.new.atlas.loci.items string_bytes) ∙ ap (λ (b : AtlasState). length b.loci) acted.atlas ∙ free.1 in
    let us = c.args.versions.now in
    let x = length a.loci + 41 in
    let number : c.last_locus-number.result ≡ x = omega (arith, c.last_locus-number.ensures, named) in
    let count : length ls ≡ length a.loci = loci_named g.s a cs ls h.sound free.0 in
    let at : x ≡ length ls + 41 = omega (arith, count) in
    let long : length us ≡ 64 = c.told-versions in
    let more : x < length us = omega (arith, free.0, long) in
    let marks : written_mark 0 ∷ written_mark n ∷ written_mark c.last_locus-number.result ∷ [] ≡ written_mark 0 ∷ written_mark n ∷ written_mark x ∷ [] = (λ t. written_mark 0 ∷ written_mark n ∷ written_mark (number t) ∷ []) in
    let entry = c.entry_of_three.ensures.entry ∙ ap (λ (marks : List Mark). step_entry us n marks c.in_ok-answer.field-0.answer) marks in
    let versions = c.entry_of_three.ensures.versions ∙ ap (versions_after us) marks in
    let makes = bears_spawn g.s L a i c.in-Spawn.d c.in-Spawn.p c.in-Spawn.is in
    let grown : c.push_within.new.list.items ≡ slice_set ls j c.spawn.new.l ++ c.in-Some.spawned ∷ [] =
    c.push_within.ensures ∙ ap (λ (xs : List PlainLocus). slice_set xs j c.spawn.new.l ++ c.in-Some.spawned ∷ []) items in
    rw (versions, grown) (stepped_spawned g.s a cs ls n j l c.spawn.new.l (atlas_of c.spawn.new.atlas) i Locus o x c.in-Some.spawned us c.in_ok-answer.field-0.answer c.entry_of_three.result h makes acted at entry more)
