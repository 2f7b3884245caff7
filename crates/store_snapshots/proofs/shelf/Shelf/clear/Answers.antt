use Rattle.std.proofs.Common.{arith}
use Rattle.store_facts.proofs.Tallies.{none_tallied}
use Rattle.store_snapshots.proofs.shelf.Shelf.clear.Goals as goal

pub invariant_of-self : goal.invariant_of-self
invariant_of-self c = (c.self.invariant.0, c.self.invariant.1, omega arith, none_tallied)
