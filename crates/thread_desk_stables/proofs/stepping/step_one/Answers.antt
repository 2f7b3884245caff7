use Rattle.std.proofs.Common.{[], ◌∷◌, None, sym, ap, subst, ◌∙◌}
use Rattle.thread_desk_looks.specs.thread_desk.Sights.{IsSighted, Sighted, sighted}
use Rattle.thread_stables.specs.kernel_core_facts.store_facts.State.{State}
use Rattle.thread_stables.specs.kernel_core_facts.kernel_commit_facts.Parts.{parts_of}
use Rattle.std.specs.Prelude.{IfSome}
use Rattle.thread_desk_looks.proofs.Looked.{goes_clean, goes_steady}
use Rattle.thread_desk_stables.specs.Looks.{LooksOrOwes}
use Rattle.thread_desk_stables.proofs.Owing.{first_known}
use Rattle.thread_stables.specs.thread_looks.Looking.{NotesLook}
use Rattle.thread_desk_stables.proofs.stepping.step_one.Goals as goal

pub told_or_owing-came-requires : goal.told_or_owing-came-requires
told_or_owing-came-requires g c = record {
  keeps = c.requires.keeps;
  wishes = c.requires.wishes;
  steady = goes_steady g.D.Disk g.B.Board.begin g.B.Board.terms g.B.Run.kept (g.S.Supplier.word c.args.gate.now.supply) (g.P.Policy.wish c.args.gate.now.policy) c.requires.managers.0 c.requires.managers.1 c.locus.inside.locked.number [] c.args.all.now c.args.notes.now c.args.annals.now c.args.store.now c.requires.kernel;
  clean = goes_clean g.D.Disk g.B.Board.begin g.B.Board.terms g.B.Run.kept (g.S.Supplier.word c.args.gate.now.supply) (g.P.Policy.wish c.args.gate.now.policy) c.requires.managers.0 c.requires.managers.1 c.locus.inside.locked.number [] c.args.all.now c.args.notes.now c.args.annals.now c.args.store.now c.requires.kernel;
  told = c.requires.kernel.entries;
}

pub hear_lent-requires : goal.hear_lent-requires
hear_lent-requires g c =
    record {
      known = first_known g.D.Disk g.B.Board.begin g.B.Board.terms g.B.Run.kept (g.S.Supplier.word c.args.gate.now.supply) (g.P.Policy.wish c.args.gate.now.policy) c.requires.managers.0 c.requires.managers.1 c.locus.inside.locked.number c.args.all.now c.args.notes.now c.args.annals.now c.args.store.now c.requires.kernel
          c.told_or_owing-came.new.store c.told_or_owing-came.new.all c.told_or_owing-came.new.notes c.told_or_owing-came.new.annals c.told_or_owing-came.ensures.told c.told_or_owing-came.result c.told_or_owing-came.ensures.looks c.told_or_owing-came.ensures.undone;
    }

pub returns-clause-looks : goal.returns-clause-looks
returns-clause-looks g c =
    let s = g.S.Supplier.word c.args.gate.now.supply in
    let policy = g.P.Policy.wish c.args.gate.now.policy in
    let old = parts_of c.args.store.now c.args.all.now c.args.notes.now in
    let new = parts_of c.told_or_owing-came.new.store c.hear_lent.new.all c.told_or_owing-came.new.notes in
    subst (λ (z : Sighted g.row.D.Denot). IfSome c.told_or_owing-came.result (LooksOrOwes g.D.Disk s policy z.number old new)) c.locus.view_is
    (subst (λ cs. IfSome c.told_or_owing-came.result (LooksOrOwes g.D.Disk s policy c.locus.inside.locked.number old (parts_of c.told_or_owing-came.new.store cs c.told_or_owing-came.new.notes))) (sym c.hear_lent.ensures.same.0) c.told_or_owing-came.ensures.looks)

pub returns-clause-notes : goal.returns-clause-notes
returns-clause-notes g c =
    subst (λ (z : Sighted g.row.D.Denot). NotesLook z.number (z.number ∷ []) c.args.notes.now.entries c.told_or_owing-came.new.notes.entries) c.locus.view_is c.told_or_owing-came.ensures.notes
