use Rattle.std.proofs.Common.{◌≡◌, ◌++◌, ◌∷◌, length, take}
use Rattle.std.specs.List.{flat_map}
use Rattle.blob_grammar.specs.Spelling.{instr_bytes}
use Rattle.blob_writing.proofs.lists.put_code.Given as goal

abbrev pub invariant-loop-instr : goal.invariant-loop-instr
invariant-loop-instr l = l.blob ≡ l.fn.blob ++ length l.instrs ∷ flat_map instr_bytes (take l.instr-index l.instrs)
