use Rattle.std.proofs.Common.{◌≡◌, length, take}
use Rattle.blob_facts.specs.Parts.{IsInstrSpelled}
use Rattle.blob_facts.proofs.Plain.{PlainSoFar}
use Rattle.blob_reading.proofs.lists.read_code.Given as goal

abbrev pub invariant-loop-place : goal.invariant-loop-place
invariant-loop-place l = (length l.instrs ≡ 128) × PlainSoFar IsInstrSpelled l.count l.initial.rest l.place (take l.place l.instrs) l.rest
