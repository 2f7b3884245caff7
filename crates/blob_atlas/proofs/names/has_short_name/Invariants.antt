use Rattle.blob_reading.proofs.blob_facts_lemmas.ShortNames.{NoneBelow}
use Rattle.blob_atlas.proofs.names.has_short_name.Given as goal

abbrev pub invariant-loop-byte : goal.invariant-loop-byte
invariant-loop-byte l = NoneBelow l.atlas l.byte
