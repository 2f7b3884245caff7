use Rattle.std.proofs.Common.{sym, ◌≡◌, ◌∙◌, length, arith}
use Rattle.std.proofs.lemmas.List.{length-set}
use Rattle.store_facts.specs.image_facts.Layout.{slot_count}
use Rattle.store_facts.proofs.Shelving.{has_room, one_pushed, used_len}
use Rattle.store_facts.proofs.Tallies.{tally_pushed}
use Rattle.store_snapshots.proofs.shelf.Shelf.push.Goals as goal

pub index_mut-requires : goal.index_mut-requires
index_mut-requires c =
    let inv = c.self.invariant in
    let all : length c.self.inside.recs.items ≡ slot_count = inv.0 in
    let lt = has_room c.self.inside.recs.items c.self.inside.tables.items c.self.inside.used slot_count (inv.1 ∙ sym inv.0) (let few = inv.2 in omega (arith, all, few)) (rw (← c.self.view_is) at c.requires) in
    omega (arith, lt, all)

pub index_mut-requires-2 : goal.index_mut-requires-2
index_mut-requires-2 c =
    let inv = c.self.invariant in
    let all : length c.self.inside.recs.items ≡ slot_count = inv.0 in
    let also : length c.self.inside.tables.items ≡ slot_count = inv.1 in
    let lt = has_room c.self.inside.recs.items c.self.inside.tables.items c.self.inside.used slot_count (inv.1 ∙ sym inv.0) (let few = inv.2 in omega (arith, all, few)) (rw (← c.self.view_is) at c.requires) in
    omega (arith, lt, also)

pub invariant_of-self : goal.invariant_of-self
invariant_of-self c =
    let inv = c.self.invariant in
    let room = rw (← c.self.view_is) at c.requires in
    let all : length c.self.inside.recs.items ≡ slot_count = inv.0 in
    let used = used_len c.self.inside.recs.items c.self.inside.tables.items c.self.inside.used (inv.1 ∙ sym inv.0) (let few = inv.2 in omega (arith, all, few)) in (
      length-set c.self.inside.recs.items c.self.inside.used c.args.rec.now ∙ inv.0,
      length-set c.self.inside.tables.items c.self.inside.used c.args.table.now ∙ inv.1,
      omega (arith, room, used),
      tally_pushed c.self.inside.counts c.self.inside.recs.items c.self.inside.used c.number.result c.args.rec.now (omega arith) (omega arith) c.number.ensures.number (omega (arith, room, used, all)) inv.3,
    )

pub returns : goal.returns
returns c =
    let inv = c.self.invariant in
    let room = rw (← c.self.view_is) at c.requires in
    let all : length c.self.inside.recs.items ≡ slot_count = inv.0 in
    let used = used_len c.self.inside.recs.items c.self.inside.tables.items c.self.inside.used (inv.1 ∙ sym inv.0) (let few = inv.2 in omega (arith, all, few)) in
    rw (← c.self.view_is) (one_pushed c.self.inside.recs.items c.self.inside.tables.items c.self.inside.used c.args.rec.now c.args.table.now (inv.1 ∙ sym inv.0) (omega (arith, room, used, all)))
