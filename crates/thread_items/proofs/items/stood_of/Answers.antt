use Rattle.std.proofs.Common.{ap}
use Rattle.thread_items.specs.Places.{stood}
use Rattle.thread_items.proofs.items.stood_of.Goals as goal

pub returns : goal.returns
returns c = ap stood c.of.ensures
