use Rattle.std.proofs.Common.{◌≡◌, ◌++◌, [], length, map, sym, ap, subst, ◌∙◌}
use Rattle.std.specs.Sync.Mutex.{mutex_guard_value}
use Rattle.thread_stables.specs.kernel_core_facts.kernel_commit_facts.Parts.{parts_of}
use Rattle.thread_stables.specs.kernel_core_facts.kernel_commit_facts.Steady.{IsSteady}
use Rattle.thread_stables.specs.thread_commits.Snapping.{AddsAmong}
use Rattle.thread_desk_stables.specs.Rows.{LetsGo, keeping_of}
use Rattle.thread_stables.specs.thread_settling.Settling.{Settles}
use Rattle.thread_stables.proofs.thread_settling_lemmas.Lent.{row_stays}
use Rattle.thread_desk_stables.proofs.stabling.stable_told.Goals as goal

pub hear_all-requires : goal.hear_all-requires
hear_all-requires g c = record { row = c.requires.row; known = c.requires.lawful.known }

pub settle_lent-kept-requires-clause-steady : goal.settle_lent-kept-requires-clause-steady
settle_lent-kept-requires-clause-steady g c =
    subst (λ cs. IsSteady g.D.Disk (parts_of c.args.store.now cs c.args.notes.now)) (sym c.hear_all.ensures.same.0) c.requires.steady

pub settle_lent-kept-requires-clause-lawful : goal.settle_lent-kept-requires-clause-lawful
settle_lent-kept-requires-clause-lawful g c = λ i k is.
    subst (λ es. LetsGo g.D.Disk g.B.Board.terms.told g.B.Board.begin g.B.Run.kept es (parts_of c.args.store.now c.hear_all.new.all c.args.notes.now)) (sym (c.hear_all.ensures.heard i k is))
    (subst (λ cs. LetsGo g.D.Disk g.B.Board.terms.told g.B.Board.begin g.B.Run.kept c.args.annals.now (parts_of c.args.store.now cs c.args.notes.now)) (sym c.hear_all.ensures.same.0) c.requires.lawful)

pub tell_alone-requires-clause-among : goal.tell_alone-requires-clause-among
tell_alone-requires-clause-among g c =
    subst (λ es. AddsAmong [] (g.B.Run.kept ++ es) c.settle_lent-kept.new.notes.entries) (sym c.hear_all.ensures.same.1)
    (subst (λ es. AddsAmong [] es c.settle_lent-kept.new.notes.entries) c.requires.told c.settle_lent-kept.ensures.settles.adds)

pub returns-clause-row : goal.returns-clause-row
returns-clause-row g c =
    row_stays (map (λ it. keeping_of (mutex_guard_value it)) c.hear_all.new.cells) (map (λ it. keeping_of (mutex_guard_value it)) c.settle_lent-kept.new.cells) c.hear_all.ensures.row c.settle_lent-kept.ensures.seats

pub returns-clause-settles : goal.returns-clause-settles
returns-clause-settles g c =
    subst (λ cs. Settles g.D.Disk c.args.actor c.settle_lent-kept.result (parts_of c.args.store.now cs c.args.notes.now) (parts_of c.settle_lent-kept.new.store c.settle_lent-kept.new.all c.settle_lent-kept.new.notes)) c.hear_all.ensures.same.0 c.settle_lent-kept.ensures.settles
