use Rattle.script_fits.proofs.Staying.{progress_stays}
use Rattle.script_fits.proofs.laws.births_keep_progress.Goals as goal

pub returns : goal.returns
returns c = progress_stays
