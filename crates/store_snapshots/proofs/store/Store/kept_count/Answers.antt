use Rattle.std.proofs.Common.{ap, ◌∙◌}
use Rattle.store_facts.specs.Shelves.{records_of}
use Rattle.store_facts.proofs.Holding.{kept_is}
use Rattle.store_snapshots.proofs.store.Store.kept_count.Goals as goal

pub returns : goal.returns
returns g c = rw (← c.self.view_is) (c.count.ensures ∙ ap (records_of c.args.entity) (kept_is g.D.Disk.block_count _ c.self.invariant))
