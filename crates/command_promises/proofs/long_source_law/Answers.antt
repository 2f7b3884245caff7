use Rattle.command_promises.proofs.TracedMeaning.{meaning_long}
use Rattle.command_promises.proofs.long_source_law.Goals as goal

pub returns : goal.returns
returns c = meaning_long
