use Rattle.std.proofs.Common.{refl, sym, ap, ◌∙◌, subst}
use Rattle.base_types.specs.declared.capabilities.Region.{Region}
use Rattle.act_invoke.specs.model_kernel.Refusals.{refusal, no_page, new_region}
use Rattle.act_invoke.specs.model_kernel.Outcomes.{map_region}
use Rattle.data_atlas.specs.data_atlas_facts.Directory.{IsBornContainer}
use Rattle.act_invoke.specs.act_alone.Loci.{locus_of, container_with}
use Rattle.act_invoke.proofs.Entered.{instr_is, within}
use Rattle.act_calls.specs.Calls.{is_map, atlas_state}
use Rattle.act_calls.proofs.BirthLemmas.{atlas_as}
use Rattle.act_calls.proofs.MapLemmas.{map_shape, map_allowed, map_made, beside_allowed, target_born}
use Rattle.act_calls.proofs.mappings.map.Goals as goal

pub new_region-region-requires-clause-pages : goal.new_region-region-requires-clause-pages
new_region-region-requires-clause-pages c =
    let l = locus_of c.args.locus.now in
    let i = c.in-Map in
    let is = sym c.requires.instr ∙ i.is in
    ap (λ v. no_page v i.a i.b i.n) c.view.ensures ∙ (map_allowed l i.field-0 i.a i.c i.b i.n i.rights (ap (refusal l) (sym is) ∙ beside_allowed is_map l c.args.number c.requires.wants)).pages

pub map_into-requires-clause-target : goal.map_into-requires-clause-target
map_into-requires-clause-target c =
    let l = locus_of c.args.locus.now in
    let i = c.in-Map in
    let is = sym c.requires.instr ∙ i.is in
    let may = map_allowed l i.field-0 i.a i.c i.b i.n i.rights (ap (refusal l) (sym is) ∙ beside_allowed is_map l c.args.number c.requires.wants) in
    let region = c.new_region-region.ensures.region ∙ ap (λ v. new_region v i.a i.c i.b i.n i.rights) c.view.ensures in
    subst (IsBornContainer c.args.atlas.now) (sym (ap (λ (r : Region). r.target) region)) (target_born c.args.atlas.now l i.c c.requires.caps may.slot may.kind)

pub map_into-requires-clause-place : goal.map_into-requires-clause-place
map_into-requires-clause-place c = within is_map (locus_of c.args.locus.now) c.args.number c.requires.ready c.requires.wants refl

pub unreachable-requires : goal.unreachable-requires
unreachable-requires c =
    let l = locus_of c.args.locus.now in
    map_shape c.args.instr (ap is_map c.requires.instr ∙ instr_is is_map l c.args.number c.requires.wants) (λ d a k b n rights. c.in_default.not-Map d a k b n rights)

pub returns : goal.returns
returns c me s words =
    let l = locus_of c.args.locus.now in
    let a = atlas_state c.args.atlas.now in
    let h = container_with words c.args.into.now in
    let i = c.in-Map in
    let is = sym c.requires.instr ∙ i.is in
    let region = c.new_region-region.ensures.region ∙ ap (λ v. new_region v i.a i.c i.b i.n i.rights) c.view.ensures in
    atlas_as _ _ _ _ _ _ _ (map_made l c.args.number i.field-0 i.a i.c i.b i.n i.rights c.requires.wants is me s a h ∙ ap (map_region l a c.args.number h) (sym region)) (c.map_into.ensures words)
