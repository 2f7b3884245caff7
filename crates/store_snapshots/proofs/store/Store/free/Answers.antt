use Rattle.std.proofs.Common.{◌∙◌}
use Rattle.store_facts.proofs.Holding.{free_is}
use Rattle.store_snapshots.proofs.store.Store.free.Goals as goal

pub returns : goal.returns
returns g c = rw (← c.self.view_is) (c.free.ensures ∙ free_is g.D.Disk.block_count _ c.self.invariant)
