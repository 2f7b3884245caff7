-- What was found is spelled by the bytes so far.
use Rattle.std.proofs.Common.{◌≡◌, ◌≤◌, take, IfSome}
use Rattle.base_instructions.specs.Fronts.{digits_read}
use Rattle.base_instructions.proofs.numbers.read_number.Given as goal

abbrev pub invariant-loop-length : goal.invariant-loop-length
invariant-loop-length l = IfSome l.found (λ n. n ≤ l.greatest) × (digits_read l.found ≡ take l.length l.bytes)
