use Rattle.blob_facts.proofs.RegionsRead.{SoFar}
use Rattle.blob_reading.proofs.regions.read_regions.Given as goal

abbrev pub invariant-loop-place : goal.invariant-loop-place
invariant-loop-place l = SoFar l.fn.pages l.count l.initial.rest l.place l.least l.regions l.rest
