use Rattle.data_atlas.specs.data_atlas_facts.Directory.{edges_of}
use Rattle.image_plain.proofs.Counting.{AreCountedTo}
use Rattle.image_plain.proofs.atlases.counted.Given as goal

abbrev pub invariant-loop-pair : goal.invariant-loop-pair
invariant-loop-pair l = AreCountedTo (edges_of l.atlas) l.edges.items l.pair
