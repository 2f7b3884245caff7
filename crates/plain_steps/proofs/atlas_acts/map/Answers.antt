use Rattle.std.proofs.Common.{◌≡◌, None, sym, ◌∙◌}
use Rattle.plain_states.specs.Plains.{atlas_of, container_of, locus_of}
use Rattle.plain_states.proofs.MarkLemmas.{none_by}
use Rattle.plain_facts.proofs.MapLemmas.{map_makes, refused_makes}
use Rattle.plain_steps.proofs.atlas_acts.map.Goals as goal

pub returns-in-Some-clause-made : goal.returns-in-Some-clause-made
returns-in-Some-clause-made c s =
    let l = locus_of c.args.l.now in
    let a = atlas_of c.args.atlas.now in
    let k = container_of s c.args.c.now in
    refused_makes l (locus_of c.finish.new.l) a a c.args.number k k c.finish.result c.args.region c.in-Some.reply (sym c.in-Some.is ∙ c.map_refusal.ensures s) c.finish.ensures.locus c.finish.ensures.answer

pub returns-clause-made : goal.returns-clause-made
returns-clause-made c s =
    let l = locus_of c.args.l.now in
    let a = atlas_of c.args.atlas.now in
    let k = container_of s c.args.c.now in
    let none : c.map_refusal.result ≡ None = none_by c.map_refusal.result c.in_default.not-Some in
    map_makes l (locus_of c.finish-2.new.l) a (atlas_of c.add_mapping.new.atlas) c.args.number k (container_of s c.add_mapping.new.c) c.finish-2.result c.args.region (sym none ∙ c.map_refusal.ensures s)
    c.finish-2.ensures.locus c.finish-2.ensures.answer c.in_ok-add_mapping.ensures.atlas (c.in_ok-add_mapping.ensures.container s)
