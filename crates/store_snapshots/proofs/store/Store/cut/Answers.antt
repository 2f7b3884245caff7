use Rattle.std.proofs.Common.{ℕ, ap}
use Rattle.store_facts.proofs.Holding.{cut_is}
use Rattle.store_snapshots.proofs.store.Store.cut.Goals as goal

pub returns : goal.returns
returns g c = rw (← c.self.view_is) (λ x. ap (λ (f : ℕ → ℕ). f x) (cut_is g.D.Disk.block_count _ c.self.invariant))
