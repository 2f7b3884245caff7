use Rattle.std.proofs.Common.{◌≡◌, ◌<◌, ◌+◌, length, ◌∙◌, arith}
use Rattle.edge_disk.proofs.Phases.{IsImage-reading, Quiet-start, Quiet-write, told}
use Rattle.log_append.specs.image_blocks.Layout.{slot_gate_at}
use Rattle.log_append.specs.log_facts.Stages.{IsGateOf}
use Rattle.log_append.proofs.log_facts_lemmas.Slots.{wrote}
use Rattle.log_turn.proofs.filling.close_slot.Goals as goal

pub returns-in_err-write-clause-any_moment : goal.returns-in_err-write-clause-any_moment
returns-in_err-write-clause-any_moment g c t =
    let disk = g.met.D.Disk in
    let laws = told g.D.Disk t disk.counts_now disk.only_now in
    let these = IsGateOf c.args.area c.args.used in
    let gate : c.body_of-at.result + 1 ≡ slot_gate_at c.args.area c.args.used = (let e = c.body_of-at.ensures.at in omega (arith, e)) in
    let room : c.args.used < 640 = (let a = c.requires.used in let b = c.if-used-eq-SLOT_COUNT.false in omega (arith, a, b)) in
    Quiet-write laws {these = these} (room, gate) (Quiet-start laws these c.args.disk.now) (c.write.ensures.stop t) (c.write.ensures.time t)

pub returns-clause-any_moment : goal.returns-clause-any_moment
returns-clause-any_moment g c t =
    let disk = g.met.D.Disk in
    let laws = told g.D.Disk t disk.counts_now disk.only_now in
    let these = IsGateOf c.args.area c.args.used in
    let gate : c.body_of-at.result + 1 ≡ slot_gate_at c.args.area c.args.used = (let e = c.body_of-at.ensures.at in omega (arith, e)) in
    let room : c.args.used < 640 = (let a = c.requires.used in let b = c.if-used-eq-SLOT_COUNT.false in omega (arith, a, b)) in
    Quiet-write laws {these = these} (room, gate) (Quiet-start laws these c.args.disk.now) (c.write.ensures.stop t) (c.write.ensures.time t)

pub returns-clause-closed : goal.returns-clause-closed
returns-clause-closed g c t room =
    let disk = g.met.D.Disk in
    let whole = IsImage-reading g.D.Disk t disk.reads_now disk.counts_now disk.whole c.args.disk.now in
    let gate : c.body_of-at.result + 1 ≡ slot_gate_at c.args.area c.args.used = (let e = c.body_of-at.ensures.at in omega (arith, e)) in
    let within : c.body_of-at.result + 1 < length (g.D.Disk.reading c.args.disk.now) = (let a = c.body_of-at.ensures.low in let b = c.requires.enough in let f = whole.len in omega (arith, a, b, f)) in
    wrote (g.D.Disk.reading c.args.disk.now) (g.D.Disk.reading c.write.new.disk) (c.body_of-at.result + 1) (slot_gate_at c.args.area c.args.used) _ gate within (c.in_ok-write.ensures.block t) ∙ c.closed_gate.ensures
