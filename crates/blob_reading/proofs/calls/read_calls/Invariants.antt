use Rattle.std.proofs.Common.{◌≡◌, length}
use Rattle.blob_facts.specs.Loci.{IsCallSpelled}
use Rattle.blob_facts.proofs.Plain.{PlainSoFar}
use Rattle.blob_reading.proofs.calls.read_calls.Given as goal

abbrev pub invariant-loop-place : goal.invariant-loop-place
invariant-loop-place l = (length l.chain ≡ l.place) × PlainSoFar IsCallSpelled l.count l.initial.rest l.place l.chain l.rest
