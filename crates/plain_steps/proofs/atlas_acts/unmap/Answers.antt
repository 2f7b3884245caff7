use Rattle.std.proofs.Common.{◌≡◌, Some, ◌==◌, find, sym, ap, ◌∙◌}
use Rattle.base_types.specs.declared.capabilities.Region.{Region}
use Rattle.plain_states.specs.Plains.{atlas_of, container_of, locus_of}
use Rattle.plain_facts.proofs.MapLemmas.{unmap_makes}
use Rattle.plain_steps.proofs.atlas_acts.unmap.Goals as goal

pub returns-clause-made : goal.returns-clause-made
returns-clause-made c s =
    let is : Some c.in-Some.region ≡ find (λ (r : Region). r.at == c.args.at) c.args.c.now.regions.items = sym c.in-Some.is ∙ c.region_from.ensures ∙ ap (find (λ (r : Region). r.at == c.args.at)) c.deref.ensures.value in
    unmap_makes (locus_of c.args.l.now) (locus_of c.finish-2.new.l) (atlas_of c.args.atlas.now) (atlas_of c.remove_mapping.new.atlas) c.args.number (container_of s c.args.c.now) (container_of s c.remove_mapping.new.c) c.finish-2.result
    c.args.at c.in-Some.region is c.finish-2.ensures.locus c.finish-2.ensures.answer c.remove_mapping.ensures.atlas (c.remove_mapping.ensures.container s)
