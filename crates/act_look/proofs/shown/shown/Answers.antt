use Rattle.std.proofs.Common.{◌<◌, ◌/◌, sym, ◌∙◌, subst, arith}
use Rattle.act_invoke.specs.model_kernel.Words.{denied}
use Rattle.act_invoke.specs.model_acts.Views.{IsReadyLocus}
use Rattle.act_invoke.specs.act_alone.Loci.{container_with, locus_of}
use Rattle.act_look.proofs.Cases.{looked_through, ready_through, region_shows, shows_as, through_shows}
use Rattle.act_look.proofs.shown.shown.Goals as goal

pub follow-requires-clause-shows : goal.follow-requires-clause-shows
follow-requires-clause-shows c = region_shows c.args.head.now.regions (c.args.address / 128) c.in-Some.region c.covering.ensures.regions (sym c.covering.ensures.covering ∙ c.in-Some.is)

pub returns-in-Some-clause-shows : goal.returns-in-Some-clause-shows
returns-in-Some-clause-shows c words done =
    let l = locus_of c.args.locus.now in
    let low : c.args.address / 128 < c.args.head.now.pages = omega arith in
    shows_as _ _ _ _ (looked_through l (container_with words c.args.head.now) c.args.address c.args.needed.0 done c.in-Some.region low (sym c.covering.ensures.covering ∙ c.in-Some.is)) c.follow.ensures.locus c.follow.ensures.answer
    (through_shows l c.in-Some.region c.args.address (denied c.in-Some.region.rights.0 c.args.needed.0))

pub returns-in-Some-clause-ready : goal.returns-in-Some-clause-ready
returns-in-Some-clause-ready c =
    subst IsReadyLocus (sym c.follow.ensures.locus) (ready_through (locus_of c.args.locus.now) c.in-Some.region c.args.address (denied c.in-Some.region.rights.0 c.args.needed.0) c.requires.ready c.requires.place)
