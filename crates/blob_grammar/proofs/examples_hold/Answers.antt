use Rattle.blob_grammar.proofs.Worked.{places, spellings}
use Rattle.blob_grammar.proofs.examples_hold.Goals as goal

pub returns-clause-spellings : goal.returns-clause-spellings
returns-clause-spellings c = spellings

pub returns-clause-places : goal.returns-clause-places
returns-clause-places c = places
