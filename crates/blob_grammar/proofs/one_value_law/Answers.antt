use Rattle.blob_grammar.proofs.Values.{one_atlas, one_container, one_locus}
use Rattle.blob_grammar.proofs.one_value_law.Goals as goal

pub returns-clause-atlas : goal.returns-clause-atlas
returns-clause-atlas c = one_atlas

pub returns-clause-container : goal.returns-clause-container
returns-clause-container c = one_container

pub returns-clause-locus : goal.returns-clause-locus
returns-clause-locus c = one_locus
