use Rattle.std.proofs.Common.{◌≡◌, ◌++◌, map, take}
use Rattle.store_facts.specs.Opening.{unread}
use Rattle.store_snapshots.proofs.opening.shelve.Given as goal

abbrev pub invariant-loop-rec : goal.invariant-loop-rec
invariant-loop-rec l = l.shelf ≡ l.fn.shelf ++ map unread (take l.rec-index l.recs)
