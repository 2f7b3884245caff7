use Rattle.model_sound_runs.proofs.Lengths.{length_bound}
use Rattle.model_sound_runs.proofs.history_length_law.Goals as goal

pub returns : goal.returns
returns c = record { bound = λ s policy script w es rules kinds sound legal. length_bound s policy script rules w es kinds sound legal }
