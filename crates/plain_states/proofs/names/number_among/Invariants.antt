use Rattle.std.proofs.Common.{◌≡◌, ◌+◌, drop, map, string_bytes}
use Rattle.model_kernel.specs.Scripts.{place_of}
use Rattle.plain_states.proofs.names.number_among.Given as goal

abbrev pub invariant-loop-i : goal.invariant-loop-i
invariant-loop-i l = place_of l.name (drop l.i (map string_bytes l.names)) (l.first + l.i) ≡ place_of l.name (map string_bytes l.names) l.first
