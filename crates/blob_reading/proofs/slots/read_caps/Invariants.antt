use Rattle.blob_facts.proofs.SlotLists.{SoFar}
use Rattle.blob_reading.proofs.slots.read_caps.Given as goal

abbrev pub invariant-loop-place : goal.invariant-loop-place
invariant-loop-place l = SoFar l.count l.initial.rest l.place l.least l.caps l.rest
