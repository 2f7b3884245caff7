use Rattle.blob_grammar.proofs.Values.{prefix_free}
use Rattle.blob_grammar.proofs.prefix_free_law.Goals as goal

pub returns : goal.returns
returns c = prefix_free
