use Rattle.blob_reading.proofs.blob_facts_lemmas.NamesRead.{SoFar}
use Rattle.blob_atlas.proofs.names.read_names.Given as goal

abbrev pub invariant-loop-place : goal.invariant-loop-place
invariant-loop-place l = SoFar l.kind l.count l.initial.atlas l.initial.rest l._place l.atlas l.rest
