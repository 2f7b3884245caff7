use Rattle.std.proofs.Common.{◌≡◌, ◌<◌, ◌+◌, length, sym, subst, ◌∙◌, arith}
use Rattle.edge_disk.specs.Disk.{Only}
use Rattle.edge_disk.specs.Image.{Image}
use Rattle.edge_disk.proofs.Images.{SameOutside-weaker}
use Rattle.edge_disk.proofs.Phases.{IsImage-reading}
use Rattle.log_reading.proofs.log_facts_lemmas.Slots.{wrote}
use Rattle.test_log.proofs.Begun.{IsFront, begun, four_written}
use Rattle.test_log.proofs.client.begin_log.Goals as goal

pub returns-clause-stands : goal.returns-clause-stands
returns-clause-stands g c t =
    let disk = g.met.D.Disk in
    let reading = g.D.Disk.reading in
    let start = c.args.disk.now in
    let one = c.write.new.self in
    let two = c.write-2.new.self in
    let three = c.write-3.new.self in
    let four = c.write-4.new.self in
    let slot : c.body_of.result + 1 ≡ 6 = (let e = c.body_of.ensures.at in omega (arith, e)) in
    let e = c.requires in
    let in_start : c.gate_of.result < length (reading start) = (let w = (IsImage-reading g.D.Disk t disk.reads_now disk.counts_now disk.whole start).len in let a = c.gate_of.ensures.low in omega (arith, w, a, e)) in
    let in_one : c.header_of.result < length (reading one) = (let w = (IsImage-reading g.D.Disk t disk.reads_now disk.counts_now disk.whole one).len in let k = c.write.ensures.count in let a = c.header_of.ensures.low in omega (arith, w, k, a, e)) in
    let in_two : c.body_of.result + 1 < length (reading two) = (let w = (IsImage-reading g.D.Disk t disk.reads_now disk.counts_now disk.whole two).len in let k = c.write.ensures.count in let l = c.write-2.ensures.count in omega (arith, w, k, l, slot, e)) in
    let in_three : c.gate_of-2.result < length (reading three) =
    (let w = (IsImage-reading g.D.Disk t disk.reads_now disk.counts_now disk.whole three).len in let k = c.write.ensures.count in let l = c.write-2.ensures.count in let m = c.write-3.ensures.count in let a = c.gate_of-2.ensures.low in omega (arith, w, k, l, m, a, e)) in
    let front : IsFront (reading four) =
    four_written (reading one) (reading two) (reading three) (reading four)
    (SameOutside-weaker _ (λ n. n ≡ 1) _ _ (λ n is. is ∙ c.header_of.ensures.at) (c.write-2.ensures.reading t))
    (SameOutside-weaker _ (λ n. n ≡ 6) _ _ (λ n is. is ∙ slot) (c.write-3.ensures.reading t))
    (SameOutside-weaker _ (λ n. n ≡ 2) _ _ (λ n is. is ∙ c.gate_of-2.ensures.at) (c.write-4.ensures.reading t))
    (wrote (reading start) (reading one) c.gate_of.result 4 _ c.gate_of.ensures.at in_start (c.in_ok-write.ensures.block t) ∙ c.closed_gate.ensures)
    (wrote (reading one) (reading two) c.header_of.result 1 _ c.header_of.ensures.at in_one (c.in_ok-write-2.ensures.block t) ∙ c.header_block.ensures)
    (wrote (reading two) (reading three) (c.body_of.result + 1) 6 _ slot in_two (c.in_ok-write-3.ensures.block t) ∙ c.closed_gate-2.ensures)
    (wrote (reading three) (reading four) c.gate_of-2.result 2 _ c.gate_of-2.ensures.at in_three (c.in_ok-write-4.ensures.block t) ∙ c.open_gate.ensures) in
    let same = sym (c.sync.ensures.reading t) in
    begun g.D.Disk c.new.result c.sync.new.self c.new.ensures.area c.new.ensures.epoch c.new.ensures.used (subst (λ (i : Image). IsFront i) same front)
    (subst (λ (i : Image). Only i (g.D.Disk.may_leave c.sync.new.self)) same (c.in_ok-sync.ensures.stable t))
