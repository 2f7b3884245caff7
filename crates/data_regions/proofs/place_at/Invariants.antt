use Rattle.std.proofs.Common.{◌≡◌, drop}
use Rattle.std.specs.Prelude.{find}
use Rattle.data_regions.specs.Regions.{begins_at}
use Rattle.data_regions.proofs.place_at.Given as goal

abbrev pub invariant-loop-place : goal.invariant-loop-place
invariant-loop-place l = find (begins_at l.at) (drop l.place l.regions) ≡ find (begins_at l.at) l.regions
