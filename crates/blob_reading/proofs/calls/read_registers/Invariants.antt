use Rattle.std.proofs.Common.{◌≡◌, length, take}
use Rattle.blob_facts.proofs.Plain.{PlainSoFar}
use Rattle.blob_facts.proofs.RegisterLists.{Register}
use Rattle.blob_reading.proofs.calls.read_registers.Given as goal

abbrev pub invariant-loop-place : goal.invariant-loop-place
invariant-loop-place l = (length l.registers ≡ 8) × PlainSoFar Register 8 l.initial.rest l.place (take l.place l.registers) l.rest
