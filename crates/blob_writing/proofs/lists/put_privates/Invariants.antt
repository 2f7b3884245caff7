use Rattle.std.proofs.Common.{◌≡◌, ◌++◌, ◌∷◌, length, take}
use Rattle.std.specs.List.{flat_map}
use Rattle.blob_grammar.specs.Spelling.{private_bytes}
use Rattle.blob_writing.proofs.lists.put_privates.Given as goal

abbrev pub invariant-loop-item : goal.invariant-loop-item
invariant-loop-item l = l.blob ≡ l.fn.blob ++ length l.items ∷ flat_map private_bytes (take l.item-index l.items)
