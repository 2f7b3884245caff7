use Rattle.std.proofs.Common.{◌≡◌, drop}
use Rattle.std.specs.Prelude.{slice_index}
use Rattle.store_facts.specs.image_meaning.Parts.{chosen_by}
use Rattle.store_snapshots.proofs.choosing.chosen_one.Given as goal

abbrev pub invariant-loop-rec : goal.invariant-loop-rec
invariant-loop-rec l = chosen_by (slice_index l.cut.0) (drop l.rec-index l.recs) l.entity ≡ chosen_by (slice_index l.cut.0) l.recs l.entity
