use Rattle.std.proofs.Common.{arith, rules}
use Rattle.store_facts.proofs.Tallies.{none_tallied}
use Rattle.store_snapshots.proofs.shelf.Shelf.new.Goals as goal

pub invariant_of-result : goal.invariant_of-result
invariant_of-result c = (search rules, search rules, omega arith, none_tallied)
