use Rattle.std.proofs.Common.{◌≡◌, ◌<◌, ◌+◌, ◌++◌, ◌∷◌, [], length, ◌∙◌, sym, subst, arith}
use Rattle.std.proofs.lemmas.List.{length-append}
use Rattle.edge_disk.specs.Image.{Image}
use Rattle.edge_disk.proofs.Phases.{IsImage-reading, told}
use Rattle.edge_tally.proofs.Counting.{CountsOn-then}
use Rattle.image_blocks.specs.image_facts.Layout.{slot_count}
use Rattle.image_blocks.specs.Layout.{slot_gate_at}
use Rattle.image_blocks.specs.Logs.{HasSlots}
use Rattle.log_facts.proofs.Through.{first_half, gates_written, reads_added, second_half}
use Rattle.log_append.proofs.log.Log.append.Goals as goal

pub returns-in_err-write_body-clause-any_moment : goal.returns-in_err-write_body-clause-any_moment
returns-in_err-write_body-clause-any_moment g c t working recs stands =
    let disk = g.met.D.Disk in
    let laws = told g.D.Disk t disk.counts_now disk.only_now in
    let room : c.args.self.now.used < slot_count = (let a = c.args.self.now.few in let b = c.if-self-eq-SLOT_COUNT.false in omega (arith, a, b)) in
    first_half laws c.args.self.now.area recs c.args.rec.now c.args.self.now.used c.args.disk.now c.write_body.new.disk stands.used stands.left room (c.write_body.ensures.any_moment t)

pub returns-in_err-open_slot-clause-any_moment : goal.returns-in_err-open_slot-clause-any_moment
returns-in_err-open_slot-clause-any_moment g c t working recs stands =
    let disk = g.met.D.Disk in
    let laws = told g.D.Disk t disk.counts_now disk.only_now in
    let room : c.args.self.now.used < slot_count = (let a = c.args.self.now.few in let b = c.if-self-eq-SLOT_COUNT.false in omega (arith, a, b)) in
    let first = first_half laws c.args.self.now.area recs c.args.rec.now c.args.self.now.used c.args.disk.now c.write_body.new.disk stands.used stands.left room (c.write_body.ensures.any_moment t) in
    let gate : c.body_of-at.result + 1 ≡ slot_gate_at c.args.self.now.area c.args.self.now.used = (let e = c.body_of-at.ensures.at in omega (arith, e)) in
    second_half laws (λ d. disk.reads_now d t) c.args.self.now.area recs c.args.rec.now c.args.disk.now c.write_body.new.disk c.open_slot.new.disk (c.body_of-at.result + 1) c.args.self.now.used stands.used
    (record { room = room; same = c.write_body.ensures.reading t; body = c.in_ok-write_body.ensures.body t ∙ c.body_block.ensures; next = c.in_ok-write_body.ensures.next t; gate = gate })
    stands.slots first (c.open_slot.ensures.any_moment t)

pub returns-in_err-write_body-clause-begins : goal.returns-in_err-write_body-clause-begins
returns-in_err-write_body-clause-begins g c = record {
  count = c.write_body.ensures.count;
  few = (let a = c.write_body.ensures.few in omega (arith, a));
  counts = c.write_body.ensures.counts;
  later = c.write_body.ensures.cause.later;
}

pub returns-in_err-open_slot-clause-begins : goal.returns-in_err-open_slot-clause-begins
returns-in_err-open_slot-clause-begins g c = record {
  count = c.open_slot.ensures.count ∙ c.write_body.ensures.count;
  few = (let a = c.write_body.ensures.few in let b = c.open_slot.ensures.few in omega (arith, a, b));
  counts = CountsOn-then _ _ _ _ _ _ c.write_body.ensures.counts c.open_slot.ensures.counts;
  later = (let a = c.write_body.ensures.cause.later in let b = c.open_slot.ensures.cause.later in omega (arith, a, b));
}

pub returns-clause-any_moment : goal.returns-clause-any_moment
returns-clause-any_moment g c t working recs stands =
    let disk = g.met.D.Disk in
    let laws = told g.D.Disk t disk.counts_now disk.only_now in
    let room : c.args.self.now.used < slot_count = (let a = c.args.self.now.few in let b = c.if-self-eq-SLOT_COUNT.false in omega (arith, a, b)) in
    let first = first_half laws c.args.self.now.area recs c.args.rec.now c.args.self.now.used c.args.disk.now c.write_body.new.disk stands.used stands.left room (c.write_body.ensures.any_moment t) in
    let gate : c.body_of-at.result + 1 ≡ slot_gate_at c.args.self.now.area c.args.self.now.used = (let e = c.body_of-at.ensures.at in omega (arith, e)) in
    second_half laws (λ d. disk.reads_now d t) c.args.self.now.area recs c.args.rec.now c.args.disk.now c.write_body.new.disk c.open_slot.new.disk (c.body_of-at.result + 1) c.args.self.now.used stands.used
    (record { room = room; same = c.write_body.ensures.reading t; body = c.in_ok-write_body.ensures.body t ∙ c.body_block.ensures; next = c.in_ok-write_body.ensures.next t; gate = gate })
    stands.slots first (c.open_slot.ensures.any_moment t)

pub returns-clause-gates : goal.returns-clause-gates
returns-clause-gates g c t =
    let disk = g.met.D.Disk in
    let room : c.args.self.now.used < slot_count = (let a = c.args.self.now.few in let b = c.if-self-eq-SLOT_COUNT.false in omega (arith, a, b)) in
    let gate : c.body_of-at.result + 1 ≡ slot_gate_at c.args.self.now.area c.args.self.now.used = (let e = c.body_of-at.ensures.at in omega (arith, e)) in
    let whole = IsImage-reading g.D.Disk t disk.reads_now disk.counts_now disk.whole c.write_body.new.disk in
    let within : c.body_of-at.result + 1 < length (g.D.Disk.reading c.write_body.new.disk) = (let a = c.body_of-at.ensures.low in let b = c.requires.enough in let e = c.write_body.ensures.count in let f = whole.len in omega (arith, a, b, e, f)) in
    gates_written c.args.self.now.area c.args.rec.now (g.D.Disk.reading c.args.disk.now) (g.D.Disk.reading c.write_body.new.disk) (g.D.Disk.reading c.open_slot.new.disk) (c.body_of-at.result + 1) c.args.self.now.used
    (record { room = room; same = c.write_body.ensures.reading t; body = c.in_ok-write_body.ensures.body t ∙ c.body_block.ensures; next = c.in_ok-write_body.ensures.next t; gate = gate })
    within (c.in_ok-open_slot.ensures.gate t)

pub returns-clause-begins : goal.returns-clause-begins
returns-clause-begins g c = record {
  count = c.open_slot.ensures.count ∙ c.write_body.ensures.count;
  few = (let a = c.write_body.ensures.few in let b = c.open_slot.ensures.few in omega (arith, a, b));
  counts = CountsOn-then _ _ _ _ _ _ c.write_body.ensures.counts c.open_slot.ensures.counts;
  later = (let a = c.write_body.ensures.cause.later in let b = c.open_slot.ensures.cause.later in omega (arith, a, b));
}

pub returns-clause-added : goal.returns-clause-added
returns-clause-added g c t recs stands =
    let disk = g.met.D.Disk in
    let room : c.args.self.now.used < slot_count = (let a = c.args.self.now.few in let b = c.if-self-eq-SLOT_COUNT.false in omega (arith, a, b)) in
    let gate : c.body_of-at.result + 1 ≡ slot_gate_at c.args.self.now.area c.args.self.now.used = (let e = c.body_of-at.ensures.at in omega (arith, e)) in
    let whole = IsImage-reading g.D.Disk t disk.reads_now disk.counts_now disk.whole c.write_body.new.disk in
    let within : c.body_of-at.result + 1 < length (g.D.Disk.reading c.write_body.new.disk) = (let a = c.body_of-at.ensures.low in let b = c.requires.enough in let e = c.write_body.ensures.count in let f = whole.len in omega (arith, a, b, e, f)) in
    let slots : HasSlots c.args.self.now.area (recs ++ c.args.rec.now ∷ []) (g.D.Disk.reading c.open_slot.new.disk) =
    reads_added c.args.self.now.area recs c.args.rec.now (g.D.Disk.reading c.args.disk.now) (g.D.Disk.reading c.write_body.new.disk) (g.D.Disk.reading c.open_slot.new.disk) (c.body_of-at.result + 1) c.args.self.now.used stands.used
    (record { room = room; same = c.write_body.ensures.reading t; body = c.in_ok-write_body.ensures.body t ∙ c.body_block.ensures; next = c.in_ok-write_body.ensures.next t; gate = gate })
    stands.slots within (c.in_ok-open_slot.ensures.gate t) in
    record {
      used = (let e = stands.used in let f = length-append recs (c.args.rec.now ∷ []) in omega (arith, e, f));
      slots = slots;
      left = λ image may. subst (λ (i : Image). HasSlots c.args.self.now.area (recs ++ c.args.rec.now ∷ []) i) (sym (c.in_ok-open_slot.ensures.stable t image may)) slots;
    }
