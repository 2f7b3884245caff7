-- The touches so far are appended, each of at most 46 bytes with its comma.
use Rattle.std.proofs.Common.{◌≡◌, ◌+◌, ◌*◌, ◌≤◌, ◌++◌, ◌∷◌, take}
use Rattle.std.specs.List.{flat_map}
use Rattle.arrayvec.specs.ArrayString.{array_string_len}
use Rattle.line_entries.specs.Entries.{touch_text}
use Rattle.line_entries.proofs.touches.push_touches.Given as goal

abbrev pub invariant-loop-touch : goal.invariant-loop-touch
invariant-loop-touch g l = record {
  bytes : l.line.bytes ≡ l.initial.line.bytes ++ flat_map (λ u. 44 ∷ touch_text (g.N.Names.atlas l.names) u) (take l.touch-index l.rest);
  room : array_string_len l.line ≤ array_string_len l.initial.line + 46 * l.touch-index;
}
