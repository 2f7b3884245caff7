-- What a stop leaves of an append and a turn behind it.
use Rattle.std.specs.Prelude.{◌⊎◌, List, [], ◌∷◌, ◌++◌}
use Rattle.edge_disk.specs.Image.{Image}
use Rattle.base_types.specs.declared.records.Rec.{Rec}
use Rattle.image_blocks.specs.Logs.{HasLog, Place, next_place}

-- the log as it was, or with the record; or the kept records at the next place
abbrev pub IsOneOf : Place → List Rec → Rec → List Rec → Image → Type 0
IsOneOf p recs rec kept c = HasLog p recs c ⊎ HasLog p (recs ++ rec ∷ []) c ⊎ HasLog (next_place p) kept c
