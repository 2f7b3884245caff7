use Rattle.std.proofs.Common.{◌≡◌}
use Rattle.data_atlas.specs.data_atlas_facts.Directory.{edges_of}
use Rattle.blob_reading.proofs.blob_facts_lemmas.EdgesRead.{SoFar}
use Rattle.blob_atlas.proofs.edges.read_edges.Given as goal

abbrev pub invariant-loop-place : goal.invariant-loop-place
invariant-loop-place l =
    SoFar l.count l.initial.rest l.place l.least (edges_of l.atlas) l.rest × (l.atlas.containers ≡ l.initial.atlas.containers) × (l.atlas.loci ≡ l.initial.atlas.loci)
