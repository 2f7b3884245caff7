use Rattle.model_sound_runs.proofs.Naming.{births_over}
use Rattle.model_sound_runs.proofs.births_end_law.Goals as goal

pub returns : goal.returns
returns c = record { over = λ s policy script w es fs rules kinds sound legal none. births_over s policy script rules w es fs kinds sound legal none }
