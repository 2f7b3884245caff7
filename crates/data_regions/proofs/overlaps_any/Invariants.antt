use Rattle.std.proofs.Common.{◌≡◌, drop}
use Rattle.std.specs.List.{list_any}
use Rattle.data_regions.specs.Regions.{overlaps}
use Rattle.data_regions.proofs.overlaps_any.Given as goal

abbrev pub invariant-loop-kept : goal.invariant-loop-kept
invariant-loop-kept l = list_any (overlaps l.region) (drop l.kept-index l.regions) ≡ list_any (overlaps l.region) l.regions
