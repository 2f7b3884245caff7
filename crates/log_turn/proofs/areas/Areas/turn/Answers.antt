use Rattle.std.proofs.Common.{◌≡◌, length, ◌<◌, ◌+◌, ◌^◌, ◌∙◌, ap, sym, subst, arith}
use Rattle.edge_disk.specs.Image.{Image, SameOutside, block_at}
use Rattle.edge_disk.specs.Moments.{LeavesOnly}
use Rattle.edge_disk.proofs.Phases.{told}
use Rattle.edge_tally.proofs.Counting.{CountsOn-then}
use Rattle.log_append.specs.image_facts.Layout.{closed_gate, open_gate}
use Rattle.log_append.specs.image_blocks.Layout.{gate_at, header_at, other}
use Rattle.log_append.specs.image_blocks.declared.areas.Area.{Area}
use Rattle.log_append.specs.image_blocks.Logs.{HasLog}
use Rattle.log_append.proofs.log_facts_lemmas.Through.{gate_open}
use Rattle.log_append.specs.Standing.{area_of as log_area}
use Rattle.log_append.specs.log_facts.Stages.{IsEitherGate, IsSwitching}
use Rattle.log_turn.specs.Standing.{area_of, place_of}
use Rattle.log_append.proofs.log_facts_lemmas.Turning.{Closing, Switching, Writing, gates_stay, moments_closing, moments_switching, moments_writing, outside_closing, outside_switch, outside_writing, reads_turned}
use Rattle.log_turn.proofs.areas.Areas.turn.Goals as goal

pub returns-in_err-close_area-clause-any_moment : goal.returns-in_err-close_area-clause-any_moment
returns-in_err-close_area-clause-any_moment g c t working recs stands =
    let disk = g.met.D.Disk in
    let reading = g.D.Disk.reading in
    let laws = told g.D.Disk t disk.counts_now disk.only_now in
    let o = c.other_area-next.result in
    let is : o ≡ other (area_of c.args.self.now) = c.other_area-next.ensures ∙ ap other c.area-active.ensures in
    let p = place_of c.args.self.now in
    let fits : c.args.self.now.epoch + 1 < 2 ^ 64 = (let e = c.requires.epoch in omega (arith, e)) in
    let closing : Closing g.D.Disk p c.args.kept.now o c.args.disk.now c.close_area.new.disk = record { same = c.close_area.ensures.reading t; quiet = c.close_area.ensures.any_moment t } in
    moments_closing laws (λ d. disk.reads_now d t) p fits recs c.args.kept.now c.args.disk.now stands.left o is c.close_area.new.disk closing

pub returns-in_err-write_kept-clause-any_moment : goal.returns-in_err-write_kept-clause-any_moment
returns-in_err-write_kept-clause-any_moment g c t working recs stands =
    let disk = g.met.D.Disk in
    let reading = g.D.Disk.reading in
    let laws = told g.D.Disk t disk.counts_now disk.only_now in
    let o = c.other_area-next.result in
    let is : o ≡ other (area_of c.args.self.now) = c.other_area-next.ensures ∙ ap other c.area-active.ensures in
    let p = place_of c.args.self.now in
    let fits : c.args.self.now.epoch + 1 < 2 ^ 64 = (let e = c.requires.epoch in omega (arith, e)) in
    let closing : Closing g.D.Disk p c.args.kept.now o c.args.disk.now c.close_area.new.disk = record { same = c.close_area.ensures.reading t; quiet = c.close_area.ensures.any_moment t } in
    let writing : Writing g.D.Disk p c.args.kept.now o c.args.disk.now c.close_area.new.disk c.write_kept.new.disk = record {
      closing = closing;
      closed = c.in_ok-close_area.ensures.closed t;
      stable = c.in_ok-close_area.ensures.stable t;
      same = c.write_kept.ensures.reading t;
      quiet = c.write_kept.ensures.any_moment t;
    } in
    moments_writing laws (λ d. disk.reads_now d t) p fits recs c.args.kept.now c.args.disk.now stands.left o is c.close_area.new.disk c.write_kept.new.disk writing

pub returns-in_err-switch-clause-any_moment : goal.returns-in_err-switch-clause-any_moment
returns-in_err-switch-clause-any_moment g c t working recs stands =
    let disk = g.met.D.Disk in
    let reading = g.D.Disk.reading in
    let laws = told g.D.Disk t disk.counts_now disk.only_now in
    let o = c.other_area-next.result in
    let is : o ≡ other (area_of c.args.self.now) = c.other_area-next.ensures ∙ ap other c.area-active.ensures in
    let p = place_of c.args.self.now in
    let fits : c.args.self.now.epoch + 1 < 2 ^ 64 = (let e = c.requires.epoch in omega (arith, e)) in
    let closing : Closing g.D.Disk p c.args.kept.now o c.args.disk.now c.close_area.new.disk = record { same = c.close_area.ensures.reading t; quiet = c.close_area.ensures.any_moment t } in
    let writing : Writing g.D.Disk p c.args.kept.now o c.args.disk.now c.close_area.new.disk c.write_kept.new.disk = record {
      closing = closing;
      closed = c.in_ok-close_area.ensures.closed t;
      stable = c.in_ok-close_area.ensures.stable t;
      same = c.write_kept.ensures.reading t;
      quiet = c.write_kept.ensures.any_moment t;
    } in
    let switching : Switching g.D.Disk p c.args.kept.now o c.args.disk.now c.close_area.new.disk c.write_kept.new.disk c.switch.new.disk = record {
      writing = writing;
      header = c.in_ok-write_kept.ensures.header t;
      slots = c.in_ok-write_kept.ensures.slots t;
      moments = subst (λ (a : Area). LeavesOnly g.D.Disk c.write_kept.new.disk c.switch.new.disk (IsSwitching a (reading c.write_kept.new.disk))) c.area-active.ensures (c.switch.ensures.any_moment t);
    } in
    moments_switching laws (λ d. disk.reads_now d t) p fits recs c.args.kept.now c.args.disk.now stands.left o is c.close_area.new.disk c.write_kept.new.disk c.switch.new.disk switching

pub returns-clause-any_moment : goal.returns-clause-any_moment
returns-clause-any_moment g c t working recs stands =
    let disk = g.met.D.Disk in
    let reading = g.D.Disk.reading in
    let laws = told g.D.Disk t disk.counts_now disk.only_now in
    let o = c.other_area-next.result in
    let is : o ≡ other (area_of c.args.self.now) = c.other_area-next.ensures ∙ ap other c.area-active.ensures in
    let p = place_of c.args.self.now in
    let fits : c.args.self.now.epoch + 1 < 2 ^ 64 = (let e = c.requires.epoch in omega (arith, e)) in
    let closing : Closing g.D.Disk p c.args.kept.now o c.args.disk.now c.close_area.new.disk = record { same = c.close_area.ensures.reading t; quiet = c.close_area.ensures.any_moment t } in
    let writing : Writing g.D.Disk p c.args.kept.now o c.args.disk.now c.close_area.new.disk c.write_kept.new.disk = record {
      closing = closing;
      closed = c.in_ok-close_area.ensures.closed t;
      stable = c.in_ok-close_area.ensures.stable t;
      same = c.write_kept.ensures.reading t;
      quiet = c.write_kept.ensures.any_moment t;
    } in
    let switching : Switching g.D.Disk p c.args.kept.now o c.args.disk.now c.close_area.new.disk c.write_kept.new.disk c.switch.new.disk = record {
      writing = writing;
      header = c.in_ok-write_kept.ensures.header t;
      slots = c.in_ok-write_kept.ensures.slots t;
      moments = subst (λ (a : Area). LeavesOnly g.D.Disk c.write_kept.new.disk c.switch.new.disk (IsSwitching a (reading c.write_kept.new.disk))) c.area-active.ensures (c.switch.ensures.any_moment t);
    } in
    moments_switching laws (λ d. disk.reads_now d t) p fits recs c.args.kept.now c.args.disk.now stands.left o is c.close_area.new.disk c.write_kept.new.disk c.switch.new.disk switching

pub returns-clause-turned : goal.returns-clause-turned
returns-clause-turned g c t working =
    let disk = g.met.D.Disk in
    let reading = g.D.Disk.reading in
    let laws = told g.D.Disk t disk.counts_now disk.only_now in
    let o = c.other_area-next.result in
    let is : o ≡ other (area_of c.args.self.now) = c.other_area-next.ensures ∙ ap other c.area-active.ensures in
    let p = place_of c.args.self.now in
    let fits : c.args.self.now.epoch + 1 < 2 ^ 64 = (let e = c.requires.epoch in omega (arith, e)) in
    let recs = (c.requires.stands t working).0 in
    let stands = (c.requires.stands t working).1 in
    let closing : Closing g.D.Disk p c.args.kept.now o c.args.disk.now c.close_area.new.disk = record { same = c.close_area.ensures.reading t; quiet = c.close_area.ensures.any_moment t } in
    let writing : Writing g.D.Disk p c.args.kept.now o c.args.disk.now c.close_area.new.disk c.write_kept.new.disk = record {
      closing = closing;
      closed = c.in_ok-close_area.ensures.closed t;
      stable = c.in_ok-close_area.ensures.stable t;
      same = c.write_kept.ensures.reading t;
      quiet = c.write_kept.ensures.any_moment t;
    } in
    let switching : Switching g.D.Disk p c.args.kept.now o c.args.disk.now c.close_area.new.disk c.write_kept.new.disk c.switch.new.disk = record {
      writing = writing;
      header = c.in_ok-write_kept.ensures.header t;
      slots = c.in_ok-write_kept.ensures.slots t;
      moments = subst (λ (a : Area). LeavesOnly g.D.Disk c.write_kept.new.disk c.switch.new.disk (IsSwitching a (reading c.write_kept.new.disk))) c.area-active.ensures (c.switch.ensures.any_moment t);
    } in
    let two = reading c.write_kept.new.disk in
    let end = reading c.switch.new.disk in
    let from = c.area-active.ensures in
    let opened = subst (λ (a : Area). block_at end (gate_at (other a)) ≡ open_gate) from (c.in_ok-switch.ensures.opened t) in
    let outside = subst (λ (a : Area). SameOutside (IsEitherGate a) two end) from (c.switch.ensures.reading t) in
    let opens = gate_open end (gate_at (other (area_of c.args.self.now))) opened in
    let read = (reads_turned laws (λ d. disk.reads_now d t) p fits recs c.args.kept.now c.args.disk.now stands.left o is c.close_area.new.disk c.write_kept.new.disk c.switch.new.disk switching outside opens) in
    let log = subst (λ (a : Area). HasLog (record { active = a; epoch = c.args.self.now.epoch + 1 }) c.args.kept.now end) (sym c.new-self.ensures.area) read.0 in
    record {
      stands = record {
        used = sym c.new-self.ensures.used;
        log = log;
        left = λ image may.
            let e = c.in_ok-switch.ensures.stable t image may in (
              subst (λ (i : Image). HasLog (record { active = log_area c.new-self.result; epoch = c.args.self.now.epoch + 1 }) c.args.kept.now i) (sym e) log,
              record { header = λ area. ap (λ (i : Image). block_at i (header_at area)) e; gate = λ area. ap (λ (i : Image). block_at i (gate_at area)) e },
            );
      };
      header = read.1;
      opened = opened;
      closed = subst (λ (a : Area). block_at end (gate_at a) ≡ closed_gate) from (c.in_ok-switch.ensures.closed t);
      slot_gates = gates_stay (area_of c.args.self.now) o (length c.args.kept.now) two end is outside (c.in_ok-write_kept.ensures.gates t);
    }

pub returns-in_err-close_area-clause-outside : goal.returns-in_err-close_area-clause-outside
returns-in_err-close_area-clause-outside g c t =
    outside_closing (area_of c.args.self.now) c.other_area-next.result _ _ (c.other_area-next.ensures ∙ ap other c.area-active.ensures) (c.close_area.ensures.reading t)

pub returns-in_err-write_kept-clause-outside : goal.returns-in_err-write_kept-clause-outside
returns-in_err-write_kept-clause-outside g c t =
    outside_writing (area_of c.args.self.now) c.other_area-next.result _ _ _ (c.other_area-next.ensures ∙ ap other c.area-active.ensures) (outside_closing (area_of c.args.self.now) c.other_area-next.result _ _ (c.other_area-next.ensures ∙ ap other c.area-active.ensures) (c.close_area.ensures.reading t)) (c.write_kept.ensures.reading t)

pub returns-in_err-switch-clause-outside : goal.returns-in_err-switch-clause-outside
returns-in_err-switch-clause-outside g c t =
    outside_switch (area_of c.args.self.now) _ _ _ (outside_writing (area_of c.args.self.now) c.other_area-next.result _ _ _ (c.other_area-next.ensures ∙ ap other c.area-active.ensures) (outside_closing (area_of c.args.self.now) c.other_area-next.result _ _ (c.other_area-next.ensures ∙ ap other c.area-active.ensures) (c.close_area.ensures.reading t)) (c.write_kept.ensures.reading t)) (subst (λ (a : Area). SameOutside (IsEitherGate a) (g.D.Disk.reading c.write_kept.new.disk) (g.D.Disk.reading c.switch.new.disk)) c.area-active.ensures (c.switch.ensures.reading t))

pub returns-clause-outside : goal.returns-clause-outside
returns-clause-outside g c t =
    outside_switch (area_of c.args.self.now) _ _ _ (outside_writing (area_of c.args.self.now) c.other_area-next.result _ _ _ (c.other_area-next.ensures ∙ ap other c.area-active.ensures) (outside_closing (area_of c.args.self.now) c.other_area-next.result _ _ (c.other_area-next.ensures ∙ ap other c.area-active.ensures) (c.close_area.ensures.reading t)) (c.write_kept.ensures.reading t)) (subst (λ (a : Area). SameOutside (IsEitherGate a) (g.D.Disk.reading c.write_kept.new.disk) (g.D.Disk.reading c.switch.new.disk)) c.area-active.ensures (c.switch.ensures.reading t))

pub returns-in_err-close_area-clause-begins : goal.returns-in_err-close_area-clause-begins
returns-in_err-close_area-clause-begins g c = record {
  count = c.close_area.ensures.count;
  few = (let f0 = c.close_area.ensures.few in omega (arith, f0));
  counts = c.close_area.ensures.counts;
  later = (let l0 = c.close_area.ensures.cause.later in omega (arith, l0));
}

pub returns-in_err-write_kept-clause-begins : goal.returns-in_err-write_kept-clause-begins
returns-in_err-write_kept-clause-begins g c = record {
  count = c.write_kept.ensures.count ∙ c.close_area.ensures.count;
  few = (let f0 = c.close_area.ensures.few in let f1 = c.write_kept.ensures.few in omega (arith, f0, f1));
  counts = CountsOn-then _ _ _ _ _ _ c.close_area.ensures.counts c.write_kept.ensures.counts;
  later = (let l0 = c.close_area.ensures.cause.later in let l1 = c.write_kept.ensures.cause.later in omega (arith, l0, l1));
}

pub returns-in_err-switch-clause-begins : goal.returns-in_err-switch-clause-begins
returns-in_err-switch-clause-begins g c = record {
  count = c.switch.ensures.count ∙ c.write_kept.ensures.count ∙ c.close_area.ensures.count;
  few = (let f0 = c.close_area.ensures.few in let f1 = c.write_kept.ensures.few in let f2 = c.switch.ensures.few in omega (arith, f0, f1, f2));
  counts = CountsOn-then _ _ _ _ _ _ (CountsOn-then _ _ _ _ _ _ c.close_area.ensures.counts c.write_kept.ensures.counts) c.switch.ensures.counts;
  later = (let l0 = c.close_area.ensures.cause.later in let l1 = c.write_kept.ensures.cause.later in let l2 = c.switch.ensures.cause.later in omega (arith, l0, l1, l2));
}

pub returns-clause-begins : goal.returns-clause-begins
returns-clause-begins g c = record {
  count = c.switch.ensures.count ∙ c.write_kept.ensures.count ∙ c.close_area.ensures.count;
  few = (let f0 = c.close_area.ensures.few in let f1 = c.write_kept.ensures.few in let f2 = c.switch.ensures.few in omega (arith, f0, f1, f2));
  counts = CountsOn-then _ _ _ _ _ _ (CountsOn-then _ _ _ _ _ _ c.close_area.ensures.counts c.write_kept.ensures.counts) c.switch.ensures.counts;
  later = (let l0 = c.close_area.ensures.cause.later in let l1 = c.write_kept.ensures.cause.later in let l2 = c.switch.ensures.cause.later in omega (arith, l0, l1, l2));
}
