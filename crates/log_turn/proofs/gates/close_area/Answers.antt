use Rattle.std.proofs.Common.{◌<◌, length, ◌∙◌, arith}
use Rattle.edge_disk.proofs.Phases.{IsImage-reading, Quiet-start, Quiet-sync, told}
use Rattle.log_append.specs.image_blocks.Layout.{gate_at}
use Rattle.log_append.proofs.log_facts_lemmas.Through.{gate_closed}
use Rattle.log_append.specs.log_facts.Stages.{IsClosing}
use Rattle.log_append.proofs.log_facts_lemmas.Slots.{wrote}
use Rattle.log_turn.proofs.gates.close_area.Goals as goal

pub returns-then-not-is_open-clause-any_moment : goal.returns-then-not-is_open-clause-any_moment
returns-then-not-is_open-clause-any_moment g c t =
    let disk = g.met.D.Disk in
    let laws = told g.D.Disk t disk.counts_now disk.only_now in
    let these = IsClosing (g.D.Disk.reading c.args.disk.now) c.args.area in
    Quiet-sync laws (Quiet-start laws these c.args.disk.now) (c.read.ensures.stop t) (c.read.ensures.time t)

pub returns-clause-closed : goal.returns-clause-closed
returns-clause-closed g c t =
    let disk = g.met.D.Disk in
    let whole = IsImage-reading g.D.Disk t disk.reads_now disk.counts_now disk.whole c.read.new.self in
    let within : c.gate_of-at.result < length (g.D.Disk.reading c.read.new.self) = (let a = c.gate_of-at.ensures.low in let b = c.requires in let e = c.read.ensures.count in let f = whole.len in omega (arith, a, b, e, f)) in
    gate_closed (g.D.Disk.reading c.write_and_sync.new.disk) (gate_at c.args.area)
    (wrote (g.D.Disk.reading c.read.new.self) (g.D.Disk.reading c.write_and_sync.new.disk) c.gate_of-at.result (gate_at c.args.area) _ c.gate_of-at.ensures.at within (c.in_ok-write_and_sync.ensures.block t) ∙ c.closed_gate.ensures)

pub returns-clause-written : goal.returns-clause-written
returns-clause-written g c t opens =
    let disk = g.met.D.Disk in
    let whole = IsImage-reading g.D.Disk t disk.reads_now disk.counts_now disk.whole c.read.new.self in
    let within : c.gate_of-at.result < length (g.D.Disk.reading c.read.new.self) = (let a = c.gate_of-at.ensures.low in let b = c.requires in let e = c.read.ensures.count in let f = whole.len in omega (arith, a, b, e, f)) in
    wrote (g.D.Disk.reading c.read.new.self) (g.D.Disk.reading c.write_and_sync.new.disk) c.gate_of-at.result (gate_at c.args.area) _ c.gate_of-at.ensures.at within (c.in_ok-write_and_sync.ensures.block t) ∙ c.closed_gate.ensures
