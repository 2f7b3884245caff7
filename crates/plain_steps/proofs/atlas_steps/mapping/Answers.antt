use Rattle.std.proofs.Common.{◌<◌, sym, subst}
use Rattle.base_types.specs.declared.capabilities.Region.{Region}
use Rattle.model_kernel.specs.Outcomes.{Outcome}
use Rattle.model_kernel.specs.State.{ContainerCell}
use Rattle.plain_states.specs.Plains.{atlas_of, container_of, locus_of}
use Rattle.plain_states.proofs.ActLemmas.{ok_by}
use Rattle.plain_states.proofs.model_act_facts_lemmas.WantLemmas.{map_pages, map_target}
use Rattle.plain_facts.specs.AtlasActs.{ActedOnBoth}
use Rattle.plain_facts.proofs.AtlasSteps.{on_map, on_unmap}
use Rattle.plain_steps.proofs.atlas_steps.mapping.Goals as goal

pub new_region-region-requires-clause-page : goal.new_region-region-requires-clause-page
new_region-region-requires-clause-page c = map_pages (locus_of c.args.l.now) c.args.instr _ _ c.in-Map.c_slot _ _ c.in-Map.rights c.in-Map.is c.requires.allowed

pub map-requires-clause-target : goal.map-requires-clause-target
map-requires-clause-target c =
    let low = map_target (locus_of c.args.l.now) c.args.instr _ _ c.in-Map.c_slot _ _ c.in-Map.rights c.in-Map.is c.requires.allowed in
    subst (λ (r : Region). r.target < 41) (sym c.new_region-region.ensures) low

pub returns-in-Map-clause-made : goal.returns-in-Map-clause-made
returns-in-Map-clause-made c =
    let l = locus_of c.args.l.now in
    let a = atlas_of c.args.atlas.now in
    ok_by c.map.result (λ answer h s. subst (λ (o : Outcome). ActedOnBoth o (locus_of c.map.new.l) (atlas_of c.map.new.atlas) (ContainerCell (container_of s c.map.new.c)) answer)
    (sym (on_map s l a c.args.number (container_of s c.args.c.now) c.args.instr _ _ _ _ _ c.in-Map.rights c.new_region-region.result c.in-Map.is c.new_region-region.ensures)) (h s)) c.map.ensures.made

pub returns-in-Unmap-clause-made : goal.returns-in-Unmap-clause-made
returns-in-Unmap-clause-made c s =
    let l = locus_of c.args.l.now in
    let a = atlas_of c.args.atlas.now in
    subst (λ (o : Outcome). ActedOnBoth o (locus_of c.unmap.new.l) (atlas_of c.unmap.new.atlas) (ContainerCell (container_of s c.unmap.new.c)) c.unmap.result)
    (sym (on_unmap s l a c.args.number (container_of s c.args.c.now) c.args.instr _ _ c.register-at.result c.in-Unmap.is c.register-at.ensures)) (c.unmap.ensures.made s)
