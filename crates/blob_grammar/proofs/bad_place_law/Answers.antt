use Rattle.blob_grammar.specs.Forms.{IsSpelling}
use Rattle.blob_grammar.proofs.Placing.{none_good, one_place, past_bad, some_place}
use Rattle.blob_grammar.proofs.Smallest.{has_spelling}
use Rattle.blob_grammar.proofs.Values.{prefix_free}
use Rattle.blob_grammar.proofs.bad_place_law.Goals as goal

pub returns-clause-one : goal.returns-clause-one
returns-clause-one c kind = one_place (IsSpelling kind)

pub returns-clause-good : goal.returns-clause-good
returns-clause-good c kind = none_good (IsSpelling kind)

pub returns-clause-past : goal.returns-clause-past
returns-clause-past c kind = past_bad (IsSpelling kind) (prefix_free kind)

pub returns-clause-some : goal.returns-clause-some
returns-clause-some c kind bytes wrong bad = some_place (IsSpelling kind) bytes (has_spelling kind) bad wrong
