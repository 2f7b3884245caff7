use Rattle.store_snapshots.proofs.store.Store.recs.Goals as goal

pub returns : goal.returns
returns g c = rw (← c.self.view_is) c.recs.ensures
