use Rattle.std.proofs.Common.{◌≡◌, ◌<◌, ◌+◌, inl, inr, length, ◌∙◌, arith}
use Rattle.edge_disk.proofs.Phases.{IsImage-reading, Quiet-start, Quiet-write, told}
use Rattle.log_append.specs.image_blocks.Layout.{slot_gate_at}
use Rattle.log_append.specs.log_facts.Stages.{IsOfSlot}
use Rattle.log_append.proofs.log_facts_lemmas.Slots.{wrote}
use Rattle.log_turn.proofs.filling.write_slot.Goals as goal

pub returns-in_err-write-clause-any_moment : goal.returns-in_err-write-clause-any_moment
returns-in_err-write-clause-any_moment g c t =
    let disk = g.met.D.Disk in
    let laws = told g.D.Disk t disk.counts_now disk.only_now in
    let these = IsOfSlot c.args.area c.args.slot in
    Quiet-write laws {these = these} (inl c.body_of-at.ensures.at) (Quiet-start laws these c.args.disk.now) (c.write.ensures.stop t) (c.write.ensures.time t)

pub returns-in_err-write-2-clause-any_moment : goal.returns-in_err-write-2-clause-any_moment
returns-in_err-write-2-clause-any_moment g c t =
    let disk = g.met.D.Disk in
    let laws = told g.D.Disk t disk.counts_now disk.only_now in
    let these = IsOfSlot c.args.area c.args.slot in
    let gate : c.body_of-at.result + 1 ≡ slot_gate_at c.args.area c.args.slot = (let e = c.body_of-at.ensures.at in omega (arith, e)) in
    let written = Quiet-write laws {these = these} (inl c.body_of-at.ensures.at) (Quiet-start laws these c.args.disk.now) (c.write.ensures.stop t) (c.write.ensures.time t) in
    Quiet-write laws {these = these} (inr gate) written (c.write-2.ensures.stop t) (c.write-2.ensures.time t)

pub returns-clause-gate : goal.returns-clause-gate
returns-clause-gate g c t =
    let disk = g.met.D.Disk in
    let whole = IsImage-reading g.D.Disk t disk.reads_now disk.counts_now disk.whole c.write.new.disk in
    let gate : c.body_of-at.result + 1 ≡ slot_gate_at c.args.area c.args.slot = (let e = c.body_of-at.ensures.at in omega (arith, e)) in
    let within : c.body_of-at.result + 1 < length (g.D.Disk.reading c.write.new.disk) = (let a = c.body_of-at.ensures.low in let b = c.requires.enough in let e = c.write.ensures.count in let f = whole.len in omega (arith, a, b, e, f)) in
    wrote (g.D.Disk.reading c.write.new.disk) (g.D.Disk.reading c.write-2.new.disk) (c.body_of-at.result + 1) (slot_gate_at c.args.area c.args.slot) _ gate within (c.in_ok-write-2.ensures.block t) ∙ c.open_gate.ensures

pub returns-clause-any_moment : goal.returns-clause-any_moment
returns-clause-any_moment g c t =
    let disk = g.met.D.Disk in
    let laws = told g.D.Disk t disk.counts_now disk.only_now in
    let these = IsOfSlot c.args.area c.args.slot in
    let gate : c.body_of-at.result + 1 ≡ slot_gate_at c.args.area c.args.slot = (let e = c.body_of-at.ensures.at in omega (arith, e)) in
    let written = Quiet-write laws {these = these} (inl c.body_of-at.ensures.at) (Quiet-start laws these c.args.disk.now) (c.write.ensures.stop t) (c.write.ensures.time t) in
    Quiet-write laws {these = these} (inr gate) written (c.write-2.ensures.stop t) (c.write-2.ensures.time t)
