-- The line tells the entry.
use Rattle.line_entry_laws.proofs.Told.{TellsSame-text}
use Rattle.line_entry_laws.proofs.told_law.Goals as goal

pub returns : goal.returns
returns c = TellsSame-text
