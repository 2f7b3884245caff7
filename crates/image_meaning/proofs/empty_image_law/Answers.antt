use Rattle.image_meaning.proofs.Emptying.{formatted, no_record}
use Rattle.image_meaning.proofs.empty_image_law.Goals as goal

pub returns-clause-no_record : goal.returns-clause-no_record
returns-clause-no_record c = no_record

pub returns-clause-formatted : goal.returns-clause-formatted
returns-clause-formatted c = formatted
