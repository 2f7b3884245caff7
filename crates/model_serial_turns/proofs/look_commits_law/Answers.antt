use Rattle.model_serial_turns.proofs.Ascent.{look_rises, stable_rises}
use Rattle.model_serial_turns.proofs.look_commits_law.Goals as goal

pub returns-clause-look : goal.returns-clause-look
returns-clause-look c s policy script r l = look_rises s policy script r l

pub returns-clause-stable : goal.returns-clause-stable
returns-clause-stable c r = stable_rises r
