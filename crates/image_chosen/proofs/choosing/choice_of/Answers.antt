use Rattle.std.specs.Prelude.{slice_index}
use Rattle.image_chosen_facts.proofs.Slots.{cut_is}
use Rattle.image_chosen.proofs.choosing.choice_of.Goals as goal

pub returns : goal.returns
returns c = cut_is c.args.count c.args.recs.now (slice_index c.greatest.result.0) c.requires.range c.greatest.ensures
