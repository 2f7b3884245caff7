use Rattle.std.proofs.Common.{◌≡◌, sym, subst, ◌∙◌, arith}
use Rattle.store_facts.proofs.Shelving.{CopiedSoFar, copied_more}
use Rattle.store_facts.proofs.Tallies.{tally_copied}
use Rattle.store_snapshots.proofs.shelf.Shelf.copy_from.Goals as goal

pub loop-i-preserved : goal.loop-i-preserved
loop-i-preserved c =
    let inv = c.other.invariant in
    let few = inv.2 in
    let lt = c.loop-i-test.true in
    copied_more c.other.inside.recs.items c.other.inside.tables.items c.loop-i.self-inside.recs.items c.loop-i.self-inside.tables.items c.loop-i.i inv.0 inv.1 (omega (arith, lt, few)) c.loop-i.invariant c.index.result.now c.index-in-loop-i.result.now c.index.ensures c.index-in-loop-i.ensures

pub invariant_of-self : goal.invariant_of-self
invariant_of-self c =
    let inv = c.other.invariant in
    let last : c.loop-i.i ≡ c.other.inside.used = (let past = c.loop-i-test.false in let few = c.loop-i.auto.i-end in omega (arith, past, few)) in
    let so_far = subst (CopiedSoFar c.other.inside.recs.items c.other.inside.tables.items c.loop-i.self-inside.recs.items c.loop-i.self-inside.tables.items) last c.loop-i.invariant in (
      so_far.many,
      so_far.tabled,
      inv.2,
      tally_copied c.other.inside.counts c.other.inside.recs.items c.loop-i.self-inside.recs.items c.other.inside.tables.items c.loop-i.self-inside.tables.items c.other.inside.used (inv.1 ∙ sym inv.0) (so_far.tabled ∙ sym so_far.many) so_far.same inv.3,
    )
