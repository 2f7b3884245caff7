use Rattle.std.proofs.Common.{◌≡◌, ◌≤◌, length, take}
use Rattle.blob_grammar.specs.Spelling.{used_slots}
use Rattle.blob_writing.proofs.lists.number_used.Given as goal

abbrev pub invariant-loop-held : goal.invariant-loop-held
invariant-loop-held l = record {
  number : l.used ≡ length (used_slots 0 (take l.held-index l.caps));
  few : l.used ≤ l.held-index;
}
