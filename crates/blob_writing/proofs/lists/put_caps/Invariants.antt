use Rattle.std.proofs.Common.{◌≡◌, ◌++◌, ◌∷◌, length, take}
use Rattle.std.specs.List.{flat_map}
use Rattle.blob_grammar.specs.Spelling.{slot_bytes, used_slots}
use Rattle.blob_writing.proofs.lists.put_caps.Given as goal

abbrev pub invariant-loop-slot : goal.invariant-loop-slot
invariant-loop-slot l = l.blob ≡ l.fn.blob ++ length (used_slots 0 l.caps) ∷ flat_map slot_bytes (used_slots 0 (take l.slot l.caps))
