use Rattle.std.proofs.Common.{Ok, false, slice_set, sym, ap, ◌∙◌, subst}
use Rattle.kernel_commit_facts.specs.Parts.{parts_of}
use Rattle.kernel_commit_facts.specs.Snapping.{Snaps}
use Rattle.thread_cells.specs.Locked.{Keeping}
use Rattle.thread_commits.specs.Snapping.{SnapsWished}
use Rattle.thread_commits.proofs.Lent.{set_there}
use Rattle.thread_commits.proofs.Over.{over}
use Rattle.thread_commits.proofs.Wished.{Records, failed_snaps, made_snaps, none_snaps}
use Rattle.thread_commits.proofs.snapping.snap_lent.Goals as goal

pub returns-then-not-wants_lent-clause-all : goal.returns-then-not-wants_lent-clause-all
returns-then-not-wants_lent-clause-all g c =
    let w = c.wants_lent.ensures in
    w.same.0 ∙ sym (ap (λ (k : Keeping). slice_set c.args.all.now c.args.cell.now.number k.cell) w.same.1 ∙ set_there c.args.all.now c.args.cell.now.number c.args.cell.now.cell w.there)

pub returns-then-not-wants_lent-clause-snaps : goal.returns-then-not-wants_lent-clause-snaps
returns-then-not-wants_lent-clause-snaps g c =
    let w = c.wants_lent.ensures in
    let old = parts_of c.args.store.now c.args.all.now c.args.notes.now in
    let wish = g.P.Policy.wish c.args.gate.now.policy in
    subst (λ l. SnapsWished g.D.Disk wish c.args.cell.now.number (Ok false) old (parts_of c.args.store.now l c.args.notes.now)) (sym w.same.0)
    (none_snaps g.D.Disk wish c.args.cell.now.number old c.requires.steady c.args.cell.now.cell w.there
    (subst (Snaps wish c.args.cell.now.number old) c.if-not-wants_lent.true w.snaps) (λ told b free. w.run told b free ∙ c.if-not-wants_lent.true))

pub returns-in-Ok-clause-snaps : goal.returns-in-Ok-clause-snaps
returns-in-Ok-clause-snaps g c =
    let w = c.wants_lent.ensures in
    let m = c.record_lent.ensures in
    let old = parts_of c.args.store.now c.args.all.now c.args.notes.now in
    let new = parts_of c.record_lent.new.store c.record_lent.new.all c.record_lent.new.notes in
    let wish = g.P.Policy.wish c.args.gate.now.policy in
    made_snaps g.D.Disk wish c.args.cell.now.number old c.requires.steady c.args.cell.now.cell w.there
    (subst (Snaps wish c.args.cell.now.number old) c.if-not-wants_lent.false w.snaps) (w.can c.if-not-wants_lent.false) (λ told b free. w.run told b free ∙ c.if-not-wants_lent.false)
    c.record_lent.result new
    (over c.wants_lent.new.all c.args.all.now c.wants_lent.new.cell c.args.cell.now w.same.0 w.same.1
    (λ l k. Records g.D.Disk k.number c.record_lent.result (parts_of c.args.store.now l c.args.notes.now) new)
    (record { recorded = m.recorded; no_blocks = m.no_blocks; fails = m.fails; run = m.run; counts = m.counts })) c.in-Ok.is

pub returns-in-Err-clause-snaps : goal.returns-in-Err-clause-snaps
returns-in-Err-clause-snaps g c =
    let w = c.wants_lent.ensures in
    let m = c.record_lent.ensures in
    let old = parts_of c.args.store.now c.args.all.now c.args.notes.now in
    let new = parts_of c.record_lent.new.store c.record_lent.new.all c.record_lent.new.notes in
    let wish = g.P.Policy.wish c.args.gate.now.policy in
    failed_snaps g.D.Disk wish c.args.cell.now.number old c.requires.steady c.args.cell.now.cell w.there
    (subst (Snaps wish c.args.cell.now.number old) c.if-not-wants_lent.false w.snaps) (w.can c.if-not-wants_lent.false) (λ told b free. w.run told b free ∙ c.if-not-wants_lent.false)
    c.record_lent.result new
    (over c.wants_lent.new.all c.args.all.now c.wants_lent.new.cell c.args.cell.now w.same.0 w.same.1
    (λ l k. Records g.D.Disk k.number c.record_lent.result (parts_of c.args.store.now l c.args.notes.now) new)
    (record { recorded = m.recorded; no_blocks = m.no_blocks; fails = m.fails; run = m.run; counts = m.counts })) c.in-Err.why c.in-Err.is
