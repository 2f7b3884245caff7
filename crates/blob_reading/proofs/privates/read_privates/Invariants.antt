use Rattle.blob_facts.proofs.PrivatesRead.{SoFar}
use Rattle.blob_reading.proofs.privates.read_privates.Given as goal

abbrev pub invariant-loop-place : goal.invariant-loop-place
invariant-loop-place l = SoFar l.count l.initial.rest l.place l.host l.page l.privates l.rest
