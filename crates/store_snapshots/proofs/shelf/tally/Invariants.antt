use Rattle.std.proofs.Common.{◌≡◌, length, take}
use Rattle.store_facts.specs.Shelves.{AreTallied}
use Rattle.store_snapshots.proofs.shelf.tally.Given as goal

abbrev pub invariant-loop-rec : goal.invariant-loop-rec
invariant-loop-rec l = record { many : length l.counts ≡ 64; tallied : AreTallied l.counts (take l.rec-index l.recs) }
