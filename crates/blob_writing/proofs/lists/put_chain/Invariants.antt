use Rattle.std.proofs.Common.{◌≡◌, ◌++◌, ◌∷◌, length, take}
use Rattle.std.specs.List.{flat_map}
use Rattle.blob_grammar.specs.Spelling.{call_bytes}
use Rattle.blob_writing.proofs.lists.put_chain.Given as goal

abbrev pub invariant-loop-call : goal.invariant-loop-call
invariant-loop-call l = l.blob ≡ l.fn.blob ++ length l.calls ∷ flat_map call_bytes (take l.call-index l.calls)
