use Rattle.std.proofs.Common.{[], ◌∷◌, ◌++◌, ap, ◌∙◌}
use Rattle.thread_cells.specs.Locked.{Keeping}
use Rattle.thread_looks.proofs.thread_commits_lemmas.Lent.{same_two}
use Rattle.thread_looks.specs.kernel_core_facts.kernel_commit_facts.Parts.{parts_of}
use Rattle.thread_desk_looks.proofs.Told.{told_among, told_still}
use Rattle.thread_desk_looks.proofs.looking.told_two.Goals as goal

pub tell_two-requires-clause-among : goal.tell_two-requires-clause-among
tell_two-requires-clause-among g c =
    told_among c.args.locus.now.number (c.args.locus.now.number ∷ c.args.other.now.number ∷ []) (c.locus.inside.share.number ∷ c.other.inside.share.number ∷ []) c.args.notes.now.entries c.look_two-came.new.notes.entries (g.B.Run.kept ++ c.args.annals.now) c.look_two-came.ensures.adds c.requires.told
    (same_two c.locus.inside.share.number c.other.inside.share.number c.args.locus.now.number c.args.other.now.number
    (c.locus.invariant.1 ∙ (ap (λ (k : Keeping). k.number) c.locus.view_is ∙ c.look_two-came.ensures.locus.0)) (c.other.invariant.1 ∙ (ap (λ (k : Keeping). k.number) c.other.view_is ∙ c.look_two-came.ensures.other.0)))

pub returns-clause-undone : goal.returns-clause-undone
returns-clause-undone g c none =
    let still = c.look_two-came.ensures.undone none in
    (still, told_still g.B.Run.kept c.args.annals.now c.tell_two.new.annals (parts_of c.args.store.now c.args.all.now c.args.notes.now) (parts_of c.look_two-came.new.store c.look_two-came.new.all c.look_two-came.new.notes) c.requires.told c.tell_two.ensures.told still)
