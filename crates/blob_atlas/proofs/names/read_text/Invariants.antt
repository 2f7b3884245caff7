use Rattle.blob_reading.proofs.blob_facts_lemmas.TextsRead.{SoFar}
use Rattle.blob_atlas.proofs.names.read_text.Given as goal

abbrev pub invariant-loop-place : goal.invariant-loop-place
invariant-loop-place l = SoFar l.atlas l.number l.size l.initial.rest l._place l.text.bytes l.rest
