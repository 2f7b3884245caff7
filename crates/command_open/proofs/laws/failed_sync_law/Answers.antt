use Rattle.command_promises.proofs.Kept.{fails_at_sync}
use Rattle.command_open.proofs.laws.failed_sync_law.Goals as goal

pub returns : goal.returns
returns g c = λ told old new gone failed.
    let d = g.D.Disk in
    let laws = g.met.D.Disk in
    fails_at_sync d laws.counts_now told old new laws.only_now gone failed
