-- The number of the digits so far.
use Rattle.std.proofs.Common.{◌≡◌, ◌≤◌, take}
use Rattle.script_meaning.specs.Strings.{decimal_value}
use Rattle.script_reading.proofs.strings.decimal_value.Given as goal

abbrev pub invariant-loop-byte : goal.invariant-loop-byte
invariant-loop-byte l = (l.number ≡ decimal_value l.most (take l.byte-index l.bytes)) × (l.number ≤ l.most)
