use Rattle.std.proofs.Common.{◌≡◌, drop}
use Rattle.std.specs.Prelude.{find}
use Rattle.data_regions.specs.Regions.{covers}
use Rattle.data_regions.proofs.find_covering.Given as goal

abbrev pub invariant-loop-region : goal.invariant-loop-region
invariant-loop-region l = find (λ region. covers region l.page) (drop l.region-index l.regions) ≡ find (λ region. covers region l.page) l.regions
