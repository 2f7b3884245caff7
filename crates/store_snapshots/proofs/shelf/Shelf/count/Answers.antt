use Rattle.std.proofs.Common.{sym, ap, ◌∙◌, arith}
use Rattle.std.specs.Prelude.{slice_index}
use Rattle.store_facts.proofs.Tallies.{tally_read}
use Rattle.store_snapshots.proofs.shelf.Shelf.count.Goals as goal

pub returns : goal.returns
returns c =
    let i = c.self.inside in
    let inv = c.self.invariant in
    rw (← c.self.view_is) (ap (slice_index i.counts) c.number.ensures.number ∙ tally_read i.counts i.recs.items i.tables.items i.used c.args.entity (inv.1 ∙ sym inv.0) inv.3 (omega arith))
