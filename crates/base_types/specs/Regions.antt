-- Regions of pages, and lists of them.
use Rattle.std.specs.Prelude.{ℕ, ◌+◌, Bool, ◌&&◌, nat_lt, nat_le, if◌then◌else◌, List, [], ◌∷◌}
use Rattle.base_types.specs.declared.capabilities.Region.{Region}

abbrev pub covers : Region → ℕ → Bool
covers region page = nat_le region.at page && nat_lt page (region.at + region.count)

-- some page is covered by both
abbrev pub overlaps : Region → Region → Bool
overlaps r s = nat_lt r.at (s.at + s.count) && nat_lt s.at (r.at + r.count)

-- regions stand in ascending order: before the first that begins later
abbrev pub insert_region : Region → List Region → List Region
insert_region r [] = r ∷ []
insert_region r (s ∷ rest) = if nat_lt r.at s.at then r ∷ s ∷ rest else s ∷ insert_region r rest
