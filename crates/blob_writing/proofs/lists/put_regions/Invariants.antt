use Rattle.std.proofs.Common.{◌≡◌, ◌++◌, ◌∷◌, length, take}
use Rattle.std.specs.List.{flat_map}
use Rattle.blob_grammar.specs.Spelling.{region_bytes}
use Rattle.blob_writing.proofs.lists.put_regions.Given as goal

abbrev pub invariant-loop-region : goal.invariant-loop-region
invariant-loop-region l = l.blob ≡ l.fn.blob ++ length l.regions ∷ flat_map region_bytes (take l.region-index l.regions)
