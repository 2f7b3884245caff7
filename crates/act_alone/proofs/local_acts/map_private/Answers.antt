use Rattle.std.proofs.Common.{ap, ◌∙◌}
use Rattle.model_kernel.specs.Refusals.{no_page}
use Rattle.act_alone.specs.Loci.{locus_of}
use Rattle.model_act_facts.proofs.Allowed.{lmap_allowed}
use Rattle.act_alone.proofs.local_acts.map_private.Goals as goal

pub new_region-region-requires-clause-pages : goal.new_region-region-requires-clause-pages
new_region-region-requires-clause-pages c =
    let l = locus_of c.args.l.now in
    ap (λ v. no_page v c.args.a c.args.b c.args.n) c.view.ensures ∙ (lmap_allowed l c.args.a c.args.c c.args.b c.args.n c.args.rights c.requires.allowed).pages

pub add-requires : goal.add-requires
add-requires c = (lmap_allowed (locus_of c.args.l.now) c.args.a c.args.c c.args.b c.args.n c.args.rights c.requires.allowed).room
