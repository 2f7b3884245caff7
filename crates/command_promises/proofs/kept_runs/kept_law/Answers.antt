use Rattle.command_promises.proofs.Returning.{kept}
use Rattle.command_promises.proofs.kept_runs.kept_law.Goals as goal

pub returns : goal.returns
returns g c b k status old new told running earlier =
    let d = g.D.Disk in
    kept d old new (λ t image le may. g.met.D.Disk.counts_now new t image told le may) b k status told running earlier
