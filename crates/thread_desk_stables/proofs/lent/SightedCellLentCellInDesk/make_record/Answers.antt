use Rattle.std.proofs.Common.{sym, subst}
use Rattle.std.specs.Prelude.{◌↔◌, IsErrOf}
use Rattle.thread_stables.specs.kernel_core_facts.kernel_commit_facts.Parts.{parts_of}
use Rattle.thread_stables.specs.kernel_core_facts.kernel_commit_facts.Recording.{CanRecord, IsShort, MayRecord}
use Rattle.thread_stables.specs.kernel_core_facts.kernel_commits.Recording.{GoesOnBy}
use Rattle.thread_stables.specs.kernel_core_facts.kernel_invariant.declared.stopping.Stopped.TheVariants as reason
use Rattle.thread_stables.specs.kernel_core_facts.store_facts.State.{State}
use Rattle.thread_cells.specs.Locked.{Keeping}
use Rattle.thread_desk_looks.specs.thread_desk.Sights.{AreKnown, IsSighted, Sighted, sighted}
use Rattle.thread_desk_looks.proofs.thread_desk_lemmas.Hearing.{sight}
use Rattle.thread_desk_stables.specs.Rows.{LetsGo}
use Rattle.thread_desk_stables.proofs.Letting.{lets_again}
use Rattle.thread_desk_stables.proofs.lent.SightedCellLentCellInDesk.make_record.Goals as goal

pub record_lent-came-requires-clause-can : goal.record_lent-came-requires-clause-can
record_lent-came-requires-clause-can g c =
    subst (λ (z : Sighted g.row.D.Denot). CanRecord g.D.Disk z.number c.args.all.now c.args.store.now) (sym c.self.view_is) c.requires.can

pub invariant_of-self : goal.invariant_of-self
invariant_of-self g c =
    let d = g.D.Disk in
    let b = g.B.Board.begin in
    let spoken = g.B.Board.terms.told in
    let kept = g.B.Run.kept in
    let old = parts_of c.args.store.now c.args.all.now c.args.notes.now in
    let new = parts_of c.record_lent-came.new.store c.record_lent-came.new.all c.record_lent-came.new.notes in
    let k = c.record_lent-came.new.cell in
    let t = c.record_lent-came.ensures in
    let was = subst (λ (z : Sighted g.row.D.Denot). LetsGo d spoken b kept z.known old) (sym c.self.view_is) c.requires.lawful in
    let lets = lets_again d spoken b kept old new c.self.inside.locked.number c.requires.can.matches.orderly c.record_lent-came.result t.recorded t.fails c.self.inside.locked.known was in
    let known = subst (AreKnown d spoken b kept c.record_lent-came.new.store c.record_lent-came.new.all) (sym t.cell.1) lets.known in
    let is = sight d spoken b kept c.record_lent-came.new.store c.record_lent-came.new.all k.known k.number k.cell known c.meet.ensures.stands in
    subst (λ (z : Keeping). IsSighted d spoken b kept (sighted z c.of-seen.result.value)) (sym c.meet.ensures.cell)
    (subst (λ (z : State g.row.D.Denot). IsSighted d spoken b kept (sighted k z)) (sym c.of-seen.ensures) is)

pub returns-clause-lawful : goal.returns-clause-lawful
returns-clause-lawful g c = λ known was.
    let d = g.D.Disk in
    let b = g.B.Board.begin in
    let spoken = g.B.Board.terms.told in
    let kept = g.B.Run.kept in
    let old = parts_of c.args.store.now c.args.all.now c.args.notes.now in
    let new = parts_of c.record_lent-came.new.store c.record_lent-came.new.all c.record_lent-came.new.notes in
    let t = c.record_lent-came.ensures in
    subst (λ cs. LetsGo d spoken b kept known (parts_of c.record_lent-came.new.store cs c.record_lent-came.new.notes)) (sym c.meet.ensures.all)
    (lets_again d spoken b kept old new c.self.inside.locked.number c.requires.can.matches.orderly c.record_lent-came.result t.recorded t.fails known was)

pub returns-clause-no_blocks : goal.returns-clause-no_blocks
returns-clause-no_blocks g c = λ n.
    subst (λ (z : Sighted g.row.D.Denot). IsErrOf c.record_lent-came.result (reason.NoBlocks n) ↔ IsShort g.D.Disk z.number (parts_of c.args.store.now c.args.all.now c.args.notes.now) n) c.self.view_is
    (c.record_lent-came.ensures.no_blocks n)

pub returns-clause-run : goal.returns-clause-run
returns-clause-run g c = λ told b may.
    subst (λ cs. GoesOnBy g.D.Disk b c.record_lent-came.result (parts_of c.record_lent-came.new.store cs c.record_lent-came.new.notes)) (sym c.meet.ensures.all)
    (c.record_lent-came.ensures.run told b
    (subst (λ (z : Sighted g.row.D.Denot). MayRecord g.D.Disk b z.number (parts_of c.args.store.now c.args.all.now c.args.notes.now)) (sym c.self.view_is) may))
