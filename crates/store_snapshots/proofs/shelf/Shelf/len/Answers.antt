use Rattle.std.proofs.Common.{sym, ◌∙◌, arith}
use Rattle.store_facts.proofs.Shelving.{used_len}
use Rattle.store_snapshots.proofs.shelf.Shelf.len.Goals as goal

pub returns-clause-len : goal.returns-clause-len
returns-clause-len c =
    let inv = c.self.invariant in
    rw (← c.self.view_is) (used_len c.self.inside.recs.items c.self.inside.tables.items c.self.inside.used (inv.1 ∙ sym inv.0) (let all = inv.0 in let few = inv.2 in omega (arith, all, few)))
