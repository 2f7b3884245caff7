-- The registers so far are appended, each of at most 21 bytes.
use Rattle.std.proofs.Common.{◌≡◌, ◌+◌, ◌*◌, ◌≤◌, ◌++◌, take}
use Rattle.arrayvec.specs.ArrayString.{array_string_len}
use Rattle.plain_show.specs.Show.{register_words}
use Rattle.plain_show.proofs.loci.push_registers.Given as goal

abbrev pub invariant-loop-register : goal.invariant-loop-register
invariant-loop-register l = record {
  bytes : l.line.bytes ≡ l.initial.line.bytes ++ register_words (take l.register-index l.registers);
  room : array_string_len l.line ≤ array_string_len l.initial.line + 21 * l.register-index;
}
