use Rattle.std.proofs.Common.{[], ◌∷◌, ◌++◌, sym, ap, subst, ◌∙◌}
use Rattle.thread_cells.specs.Locked.{Keeping}
use Rattle.thread_stables.specs.kernel_core_facts.kernel_commit_facts.Parts.{parts_of}
use Rattle.thread_desk_looks.proofs.Told.{told_still}
use Rattle.thread_stables.specs.thread_looks.Looking.{NotesLook}
use Rattle.thread_desk_stables.proofs.stepping.told_or_owing.Goals as goal

pub tell_look-requires-clause-notes : goal.tell_look-requires-clause-notes
tell_look-requires-clause-notes g c =
    let same = c.locus.invariant.1 ∙ (ap (λ (k : Keeping). k.number) c.locus.view_is ∙ c.look_or_owe-came.ensures.locus.0) in
    subst (λ n. NotesLook n (n ∷ []) (g.B.Run.kept ++ c.args.annals.now) c.look_or_owe-came.new.notes.entries) (sym same)
    (subst (λ es. NotesLook c.args.locus.now.number (c.args.locus.now.number ∷ []) es c.look_or_owe-came.new.notes.entries) c.requires.told c.look_or_owe-came.ensures.adds)

pub returns-clause-undone : goal.returns-clause-undone
returns-clause-undone g c none =
    let still = c.look_or_owe-came.ensures.undone none in
    (still, told_still g.B.Run.kept c.args.annals.now c.tell_look.new.annals (parts_of c.args.store.now c.args.all.now c.args.notes.now) (parts_of c.look_or_owe-came.new.store c.look_or_owe-came.new.all c.look_or_owe-came.new.notes) c.requires.told c.tell_look.ensures.told still)
