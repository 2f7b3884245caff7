use Rattle.std.proofs.Common.{sym, ◌∙◌, arith}
use Rattle.store_facts.proofs.Shelving.{read_table}
use Rattle.store_snapshots.proofs.shelf.Shelf.table.Goals as goal

pub returns : goal.returns
returns c =
    let inv = c.self.invariant in
    let there = rw (← c.self.view_is) at c.requires in
    rw (← c.self.view_is) (read_table c.self.inside.recs.items c.self.inside.tables.items c.self.inside.used c.args.place (inv.1 ∙ sym inv.0) (let all = inv.0 in let few = inv.2 in omega (arith, all, few)) there c.index.result.now c.index.ensures)
