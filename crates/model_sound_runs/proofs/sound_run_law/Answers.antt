use Rattle.model_sound_runs.proofs.Runs.{legal_sound, part_sound}
use Rattle.model_sound_runs.proofs.Standing.{legal_below}
use Rattle.model_sound_runs.proofs.sound_run_law.Goals as goal

pub returns-clause-run : goal.returns-clause-run
returns-clause-run c s policy script w es rules kinds sound legal = legal_sound s policy script w es rules (sound, kinds) legal

pub returns-clause-part : goal.returns-clause-part
returns-clause-part c s policy script w es p rules kinds sound legal = part_sound s policy script w es p rules (sound, kinds) legal

pub returns-clause-below : goal.returns-clause-below
returns-clause-below c s policy script w es rules kinds sound legal = legal_below s policy script rules w es kinds sound legal
