use Rattle.thread_returns.proofs.Returned.{none_back}
use Rattle.thread_returns.proofs.values.Returning.of.Goals as goal

pub invariant_of-result : goal.invariant_of-result
invariant_of-result g c = (c.requires.places, none_back c.args.closing c.args.places.items c.requires.none)
