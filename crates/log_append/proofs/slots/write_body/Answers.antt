use Rattle.std.proofs.Common.{◌≡◌, ◌<◌, ◌+◌, inl, inr, length, [], ap, subst, ◌∙◌, arith}
use Rattle.std.proofs.lemmas.List.{get_or-set_same}
use Rattle.edge_disk.specs.Image.{Image, block_at}
use Rattle.edge_disk.proofs.Phases.{IsImage-reading, Quiet-start, Quiet-write, told}
use Rattle.image_blocks.specs.image_facts.Layout.{closed_gate, slot_count}
use Rattle.image_blocks.specs.Layout.{slot_gate_at}
use Rattle.log_facts.specs.Bodies.{IsBodyBlock}
use Rattle.log_facts.proofs.Through.{gate_low}
use Rattle.log_append.proofs.slots.write_body.Goals as goal

pub returns-in_err-write-clause-any_moment : goal.returns-in_err-write-clause-any_moment
returns-in_err-write-clause-any_moment g c t =
    let disk = g.met.D.Disk in
    let laws = told g.D.Disk t disk.counts_now disk.only_now in
    let these = IsBodyBlock c.args.area c.args.slot in
    Quiet-write laws {these = these} (inl c.body_of-at.ensures.at) (Quiet-start laws these c.args.disk.now) (c.write.ensures.stop t) (c.write.ensures.time t)

pub returns-then-slot-eq-LAST_SLOT-clause-any_moment : goal.returns-then-slot-eq-LAST_SLOT-clause-any_moment
returns-then-slot-eq-LAST_SLOT-clause-any_moment g c t =
    let disk = g.met.D.Disk in
    let laws = told g.D.Disk t disk.counts_now disk.only_now in
    let these = IsBodyBlock c.args.area c.args.slot in
    Quiet-write laws {these = these} (inl c.body_of-at.ensures.at) (Quiet-start laws these c.args.disk.now) (c.write.ensures.stop t) (c.write.ensures.time t)

pub returns-in_err-write-2-clause-any_moment : goal.returns-in_err-write-2-clause-any_moment
returns-in_err-write-2-clause-any_moment g c t =
    let disk = g.met.D.Disk in
    let laws = told g.D.Disk t disk.counts_now disk.only_now in
    let these = IsBodyBlock c.args.area c.args.slot in
    let at : c.body_of-at.result + 3 ≡ slot_gate_at c.args.area (c.args.slot + 1) = (let e = c.body_of-at.ensures.at in omega (arith, e)) in
    let room : c.args.slot + 1 < slot_count = (let a = c.requires.slot in let b = c.if-slot-eq-LAST_SLOT.false in omega (arith, a, b)) in
    let written = Quiet-write laws {these = these} (inl c.body_of-at.ensures.at) (Quiet-start laws these c.args.disk.now) (c.write.ensures.stop t) (c.write.ensures.time t) in
    Quiet-write laws {these = these} (inr (room, at)) written (c.write-2.ensures.stop t) (c.write-2.ensures.time t)

pub returns-clause-any_moment : goal.returns-clause-any_moment
returns-clause-any_moment g c t =
    let disk = g.met.D.Disk in
    let laws = told g.D.Disk t disk.counts_now disk.only_now in
    let these = IsBodyBlock c.args.area c.args.slot in
    let at : c.body_of-at.result + 3 ≡ slot_gate_at c.args.area (c.args.slot + 1) = (let e = c.body_of-at.ensures.at in omega (arith, e)) in
    let room : c.args.slot + 1 < slot_count = (let a = c.requires.slot in let b = c.if-slot-eq-LAST_SLOT.false in omega (arith, a, b)) in
    let written = Quiet-write laws {these = these} (inl c.body_of-at.ensures.at) (Quiet-start laws these c.args.disk.now) (c.write.ensures.stop t) (c.write.ensures.time t) in
    Quiet-write laws {these = these} (inr (room, at)) written (c.write-2.ensures.stop t) (c.write-2.ensures.time t)

pub returns-clause-next : goal.returns-clause-next
returns-clause-next g c t more =
    let disk = g.met.D.Disk in
    let whole = IsImage-reading g.D.Disk t disk.reads_now disk.counts_now disk.whole c.write.new.disk in
    let at : c.body_of-at.result + 3 ≡ slot_gate_at c.args.area (c.args.slot + 1) = (let e = c.body_of-at.ensures.at in omega (arith, e)) in
    let within : c.body_of-at.result + 3 < length (g.D.Disk.reading c.write.new.disk) =
    (let a = c.body_of-at.ensures.at in let b = c.requires.enough in let e = c.write.ensures.count in let f = whole.len in let r = more in let l = gate_low c.args.area (c.args.slot + 1) more in omega (arith, a, b, e, f, l)) in
    subst (λ n. block_at (g.D.Disk.reading c.write-2.new.disk) n ≡ closed_gate) at
    (ap (λ (image : Image). block_at image (c.body_of-at.result + 3)) (c.in_ok-write-2.ensures.block t)
    ∙ (get_or-set_same (g.D.Disk.reading c.write.new.disk) (c.body_of-at.result + 3) _ [] within ∙ c.closed_gate.ensures))
