use Rattle.std.proofs.Common.{◌≡◌, ◌≤◌, ◌+◌, ◌*◌, ◌++◌, ◌∷◌, length, take}
use Rattle.std.specs.List.{flat_map}
use Rattle.blob_grammar.specs.Spelling.{text_bytes}
use Rattle.blob_facts.specs.Pieces.{names_of}
use Rattle.blob_writing.proofs.atlases.put_names.Given as goal

abbrev pub invariant-loop-place : goal.invariant-loop-place
invariant-loop-place l = record {
  names : l.blob ≡ l.fn.blob ++ length (names_of l.fn.kind l.atlas) ∷ flat_map text_bytes (take l.place (names_of l.fn.kind l.atlas));
  long : length l.blob ≤ length l.fn.blob + 1 + l.place * 25;
}
