use Rattle.kernel_laws.proofs.Starting.{opened_image, script_runs, start_lives}
use Rattle.kernel_laws.proofs.start_law.Goals as goal

pub returns-clause-image : goal.returns-clause-image
returns-clause-image g c b marks now t image means = opened_image b marks now t image means

pub returns-clause-live : goal.returns-clause-live
returns-clause-live g c b k disk right none st = start_lives b g.D.Disk k disk right none st

pub returns-clause-script : goal.returns-clause-script
returns-clause-script g c b script k disk right steps history r = script_runs b g.D.Disk k disk script right steps history r
