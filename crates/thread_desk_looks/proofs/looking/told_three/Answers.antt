use Rattle.std.proofs.Common.{[], ◌∷◌, ◌++◌, ap, ◌∙◌}
use Rattle.thread_cells.specs.Locked.{Keeping}
use Rattle.thread_looks.proofs.thread_commits_lemmas.Lent.{same_three}
use Rattle.thread_looks.specs.kernel_core_facts.kernel_commit_facts.Parts.{parts_of}
use Rattle.thread_desk_looks.proofs.Told.{told_among, told_still}
use Rattle.thread_desk_looks.proofs.looking.told_three.Goals as goal

pub tell_three-requires-clause-among : goal.tell_three-requires-clause-among
tell_three-requires-clause-among g c =
    told_among c.args.locus.now.number (c.args.locus.now.number ∷ c.args.atlas.now.number ∷ c.args.other.now.number ∷ []) (c.locus.inside.share.number ∷ c.atlas.inside.share.number ∷ c.other.inside.share.number ∷ []) c.args.notes.now.entries c.look_three-came.new.notes.entries (g.B.Run.kept ++ c.args.annals.now) c.look_three-came.ensures.adds c.requires.told
    (same_three c.locus.inside.share.number c.atlas.inside.share.number c.other.inside.share.number c.args.locus.now.number c.args.atlas.now.number c.args.other.now.number
    (c.locus.invariant.1 ∙ (ap (λ (k : Keeping). k.number) c.locus.view_is ∙ c.look_three-came.ensures.locus.0)) (c.atlas.invariant.1 ∙ (ap (λ (k : Keeping). k.number) c.atlas.view_is ∙ c.look_three-came.ensures.atlas.0)) (c.other.invariant.1 ∙ (ap (λ (k : Keeping). k.number) c.other.view_is ∙ c.look_three-came.ensures.other.0)))

pub returns-clause-undone : goal.returns-clause-undone
returns-clause-undone g c none =
    let still = c.look_three-came.ensures.undone none in
    (still, told_still g.B.Run.kept c.args.annals.now c.tell_three.new.annals (parts_of c.args.store.now c.args.all.now c.args.notes.now) (parts_of c.look_three-came.new.store c.look_three-came.new.all c.look_three-came.new.notes) c.requires.told c.tell_three.ensures.told still)
