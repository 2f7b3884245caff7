use Rattle.std.proofs.Common.{◌≡◌, ◌++◌, take, drop}
use Rattle.data_regions.specs.Regions.{insert_region}
use Rattle.data_regions.proofs.place_behind.Given as goal

abbrev pub invariant-loop-place : goal.invariant-loop-place
invariant-loop-place l = insert_region l.region l.regions ≡ take l.place l.regions ++ insert_region l.region (drop l.place l.regions)
