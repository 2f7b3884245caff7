use Rattle.std.proofs.Common.{◌∙◌}
use Rattle.store_facts.proofs.Holding.{named_is}
use Rattle.store_snapshots.proofs.paged_store.StorePageStore.kept.Goals as goal

pub returns : goal.returns
returns g c = rw (← c.self.view_is) (c.is_named.ensures ∙ named_is g.D.Disk.block_count _ c.self.invariant c.args.block)
