use Rattle.store_snapshots.proofs.store.Store.held_law.Goals as goal

pub returns : goal.returns
returns g c = rw (← c.self.view_is) c.self.invariant.held
