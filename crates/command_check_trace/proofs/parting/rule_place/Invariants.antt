use Rattle.std.proofs.Common.{◌≡◌, true, drop}
use Rattle.command_promises.specs.SourceParts.{rule_from}
use Rattle.command_check_trace.proofs.parting.rule_place.Given as goal

-- no line that begins before this byte is it
abbrev pub invariant-loop-at : goal.invariant-loop-at
invariant-loop-at l = rule_from l.begins (drop l.at l.bytes) l.at ≡ rule_from true l.bytes 0
