use Rattle.std.proofs.Common.{◌<◌, sym, ap, subst, ◌∙◌}
use Rattle.node_lending.specs.kernel_core.Parts.{held_of}
use Rattle.node_lending.specs.kernel_core_facts.Kernels.{IsKept}
use Rattle.node_newest.proofs.Behind.{HasReadNewest, has_read}
use Rattle.node_newest.proofs.Lent.{kept_all}
use Rattle.node_newest.proofs.asking.read_newest.Goals as goal

pub together-requires : goal.together-requires
together-requires g c =
    let old = c.apart-cells.result in
    let e = c.read_last-came.ensures in
    record {
      lawful = subst (λ stop. IsKept g.D.Disk (held_of c.read_last-came.new.store old.cells.items old.notes stop)) (sym c.stop_behind-stopped.ensures)
          (kept_all g.D.Disk old.store c.read_last-came.new.store c.lending_law.ensures.kept old.cells.items old.notes old.stopped c.apart-cells.ensures.lawful c.read_last-came.result e.shut.0 e.untouched e.answers);
    }

pub returns : goal.returns
returns g c =
    let old = c.apart-cells.result in
    let e = c.read_last-came.ensures in
    let new = ap (held_of c.read_last-came.new.store old.cells.items old.notes) (sym c.stop_behind-stopped.ensures) ∙ sym c.together.ensures in
    let all = subst (λ k. HasReadNewest g.D.Disk c.args.asked.1 k c.read_last-came.result c.together.result) c.apart-cells.ensures.parts
    (subst (HasReadNewest g.D.Disk c.args.asked.1 (held_of old.store old.cells.items old.notes old.stopped) c.read_last-came.result) new
    (has_read g.D.Disk old.cells.items old.notes old.store c.read_last-came.new.store old.stopped c.args.asked.1 (subst (λ n. n < 64) c.number.ensures.number c.number.ensures.small) c.apart-cells.ensures.lawful c.read_last-came.result
    e.shut e.answers g.met.D.Disk.only_now c.lending_law.ensures.lent (λ b es legal. c.commit_record_law.ensures.records b.supply b.policy b.script b.state es legal) e.untouched e.none e.found e.sound e.read)) in
    record {
      shut = all.shut;
      untouched = all.untouched;
      none = all.none;
      found = all.found;
      told = all.told;
      read_fault = all.read_fault;
      stop = all.stop;
      notes = all.notes;
      cells = all.cells;
      reads = all.reads;
      lent = all.lent;
    }
