use Rattle.store_facts.proofs.Opened.{over_range, over_records}
use Rattle.store_snapshots.proofs.store.Store.open.Goals as goal

pub returns-clause-records : goal.returns-clause-records
returns-clause-records g c =
    let synced = c.in_ok-synced.synced in
    over_records g.D.Disk synced.disk synced.tally synced.log c.in_ok-synced.ensures.synced
    (g.D.Disk.reading c.args.disk) c.in_ok-synced.ensures.syncs.same_reading c.over.result c.over.ensures.over

pub returns-clause-range : goal.returns-clause-range
returns-clause-range g c =
    let synced = c.in_ok-synced.synced in
    over_range (g.D.Disk.block_count synced.disk) synced.log c.in_ok-synced.ensures.synced.known c.over.result c.over.ensures.over
