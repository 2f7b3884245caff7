-- Lists of regions.
use Rattle.std.specs.Prelude.{ℕ, ◌+◌, ◌≤◌, Bool, ◌==◌, nat_lt, if◌then◌else◌, List, [], ◌∷◌, length, Result, Ok, Err}
use Rattle.std.specs.List.{list_any}
use Rattle.base_types.specs.declared.capabilities.Region.{Region}
use Rattle.base_types.specs.declared.instructions.Reply.{Reply}
use Rattle.base_types.specs.declared.instructions.Reply.TheVariants.{Overlap, ListFull}
pub use Rattle.base_types.specs.Regions.{covers, insert_region, overlaps}

-- a region of at least one page, inside the pages that a container may have, and showing such pages
abbrev pub IsRegion : Region → Type 0
IsRegion r = (1 ≤ r.count) × (r.at + r.count ≤ 256) × (r.from + r.count ≤ 256)

-- the region begins at this page
abbrev pub begins_at : ℕ → Region → Bool
begins_at page r = r.at == page

-- what adding a region to at most this many answers
abbrev pub add_answer : ℕ → Region → List Region → Result (Unit {0}) Reply
add_answer most r rs = if list_any (overlaps r) rs then Err Overlap else (if nat_lt (length rs) most then Ok tt else Err ListFull)

abbrev pub AllEndBefore : Region → List Region → Type 0
AllEndBefore r [] = Unit {0}
AllEndBefore r (s ∷ rest) = (r.at + r.count ≤ s.at) × AllEndBefore r rest

-- regions that ascend, each of which ends before those behind it begin
abbrev pub AreRegions : List Region → Type 0
AreRegions [] = Unit {0}
AreRegions (r ∷ rest) = IsRegion r × AllEndBefore r rest × AreRegions rest
