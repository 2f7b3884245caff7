use Rattle.model_sound_runs.proofs.Kept.{kept_few}
use Rattle.model_sound_runs.proofs.kept_records_law.Goals as goal

pub returns : goal.returns
returns c = record { few = kept_few }
