use Rattle.blob_grammar.proofs.KindSizes.{atlas_four, container_four, eight_blocks, locus_four, most, some}
use Rattle.blob_grammar.proofs.spelling_size_law.Goals as goal

pub returns-clause-some : goal.returns-clause-some
returns-clause-some c = some

pub returns-clause-most : goal.returns-clause-most
returns-clause-most c = most

pub returns-clause-eight_blocks : goal.returns-clause-eight_blocks
returns-clause-eight_blocks c = eight_blocks

pub returns-clause-container : goal.returns-clause-container
returns-clause-container c = container_four

pub returns-clause-locus : goal.returns-clause-locus
returns-clause-locus c = locus_four

pub returns-clause-sound_atlas : goal.returns-clause-sound_atlas
returns-clause-sound_atlas c = atlas_four
