use Rattle.std.specs.Prelude.{◌≡◌, drop}
use Rattle.node_pages.specs.Reading.{last_from, last_rec}
use Rattle.node_pages.proofs.finding.last_rec.Given as goal

-- what is found so far, and what comes still
abbrev pub invariant-loop-rec : goal.invariant-loop-rec
invariant-loop-rec l = last_rec l.recs l.entity ≡ last_from l.last (drop l.rec-index l.recs) l.entity
