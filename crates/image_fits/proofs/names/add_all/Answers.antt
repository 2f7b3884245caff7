use Rattle.std.proofs.Common.{◌+◌, take}
use Rattle.image_fits.specs.Naming.{names_in, names_of}
use Rattle.image_fit_facts.proofs.Uses.{summed_end, summed_more, summed_none}
use Rattle.image_fits.proofs.names.add_all.Goals as goal

pub loop-chosen-init : goal.loop-chosen-init
loop-chosen-init c = λ f before. summed_none c.args.uses.now f before

pub loop-chosen-preserved : goal.loop-chosen-preserved
loop-chosen-preserved c = λ f before.
    summed_more c.add_names.new.uses f names_in c.args.entities.now c.loop-chosen.chosen-index c.chosen-item.result c.loop-chosen-test.true c.chosen-item.is
    (c.add_names.ensures (λ b. f b + names_of (take c.loop-chosen.chosen-index c.args.entities.now) b) (c.loop-chosen.invariant f before))

pub returns : goal.returns
returns c = λ f before. summed_end c.loop-chosen.uses f names_in c.args.entities.now c.loop-chosen.chosen-index c.loop-chosen-test.false (c.loop-chosen.invariant f before)
