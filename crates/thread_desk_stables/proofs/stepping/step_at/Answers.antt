use Rattle.std.proofs.Common.{◌≡◌, [], ◌∷◌, None, map, refl, sym, ap, subst, ◌∙◌}
use Rattle.std.specs.Prelude.{◌↔◌, IfSome}
use Rattle.std.specs.Sync.Mutex.{mutex_guard_value}
use Rattle.thread_stables.specs.kernel_core_facts.kernel_commit_facts.Parts.{parts_of}
use Rattle.thread_stables.specs.thread_cell_steps.Advancing.{WantsOthers}
use Rattle.thread_desk_stables.specs.Looks.{LooksOrOwes}
use Rattle.thread_desk_stables.specs.Rows.{keeping_of}
use Rattle.thread_stables.specs.thread_looks.Looking.{NotesLook}
use Rattle.thread_stables.proofs.thread_settling_lemmas.Lent.{row_back}
use Rattle.thread_stables.proofs.Seats.{lent_at}
use Rattle.thread_desk_stables.proofs.stepping.step_at.Goals as goal

pub returns-clause-row : goal.returns-clause-row
returns-clause-row g c =
    let at = lent_at (λ it. keeping_of (mutex_guard_value it)) c.args.cells.now c.number-i.result c.args.me c.index-cells-i.result (keeping_of c.deref_mut-locus.result.now) c.index-cells-i.is (ap keeping_of c.deref_mut-locus.ensures.value) c.requires.row c.number-i.ensures.number c.number-i.ensures.small in
    row_back (λ it. keeping_of (mutex_guard_value it)) c.args.cells.now c.number-i.result _ (keeping_of c.step_one.new.locus) refl c.requires.row (c.step_one.ensures.number ∙ (at.1 ∙ sym c.number-i.ensures.number))

pub returns-clause-unfit : goal.returns-clause-unfit
returns-clause-unfit g c =
    let at = lent_at (λ it. keeping_of (mutex_guard_value it)) c.args.cells.now c.number-i.result c.args.me c.index-cells-i.result (keeping_of c.deref_mut-locus.result.now) c.index-cells-i.is (ap keeping_of c.deref_mut-locus.ensures.value) c.requires.row c.number-i.ensures.number c.number-i.ensures.small in
    subst (λ n. (c.step_one.result ≡ None) ↔ WantsOthers c.args.all.now n []) at.1 c.step_one.ensures.unfit

pub returns-clause-looks : goal.returns-clause-looks
returns-clause-looks g c =
    let at = lent_at (λ it. keeping_of (mutex_guard_value it)) c.args.cells.now c.number-i.result c.args.me c.index-cells-i.result (keeping_of c.deref_mut-locus.result.now) c.index-cells-i.is (ap keeping_of c.deref_mut-locus.ensures.value) c.requires.row c.number-i.ensures.number c.number-i.ensures.small in
    let old = parts_of c.args.store.now c.args.all.now c.args.notes.now in
    let new = parts_of c.step_one.new.store c.step_one.new.all c.step_one.new.notes in
    subst (λ n. IfSome c.step_one.result (LooksOrOwes g.D.Disk (g.S.Supplier.word c.args.gate.now.supply) (g.P.Policy.wish c.args.gate.now.policy) n old new)) at.1 c.step_one.ensures.looks

pub returns-clause-notes : goal.returns-clause-notes
returns-clause-notes g c =
    let at = lent_at (λ it. keeping_of (mutex_guard_value it)) c.args.cells.now c.number-i.result c.args.me c.index-cells-i.result (keeping_of c.deref_mut-locus.result.now) c.index-cells-i.is (ap keeping_of c.deref_mut-locus.ensures.value) c.requires.row c.number-i.ensures.number c.number-i.ensures.small in
    subst (λ n. NotesLook n (n ∷ []) c.args.notes.now.entries c.step_one.new.notes.entries) at.1 c.step_one.ensures.notes
