use Rattle.std.proofs.Common.{◌≡◌, length, take}
use Rattle.image_fit_facts.specs.Edges.{IsTally}
use Rattle.image_fits.proofs.edges.tally.Given as goal

abbrev pub invariant-loop-region : goal.invariant-loop-region
invariant-loop-region l = record {
  counts : IsTally l.counts (take l.region-index l.regions);
  all : length l.counts ≡ 64;
}
