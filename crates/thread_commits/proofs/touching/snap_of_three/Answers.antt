use Rattle.std.proofs.Common.{[], ◌∷◌, subst}
use Rattle.kernel_commit_facts.specs.Parts.{parts_of}
use Rattle.thread_commits.specs.Snapping.{SnapsWished}
use Rattle.thread_commits.proofs.Lent.{is_another, is_this, others_more, others_set}
use Rattle.thread_commits.proofs.touching.snap_of_three.Goals as goal

pub returns-then-is_of-clause-others : goal.returns-then-is_of-clause-others
returns-then-is_of-clause-others g c =
    let its = is_this c.args.entity c.args.one.now.number c.is_of.result c.is_of.ensures c.if-is_of.true in
    others_set (c.args.one.now.number ∷ c.args.two.now.number ∷ c.args.three.now.number ∷ []) c.args.entity c.args.one.now.number c.args.all.now c.snap_lent.new.all c.snap_lent.new.cell.cell c.snap_lent.ensures.all its c.requires.among

pub returns-then-is_of-clause-snaps : goal.returns-then-is_of-clause-snaps
returns-then-is_of-clause-snaps g c =
    let its = is_this c.args.entity c.args.one.now.number c.is_of.result c.is_of.ensures c.if-is_of.true in
    subst (λ x. SnapsWished g.D.Disk (g.P.Policy.wish c.args.gate.now.policy) x c.snap_lent.result (parts_of c.args.store.now c.args.all.now c.args.notes.now) (parts_of c.snap_lent.new.store c.snap_lent.new.all c.snap_lent.new.notes)) its c.snap_lent.ensures.snaps

pub snap_of_two-requires-clause-among : goal.snap_of_two-requires-clause-among
snap_of_two-requires-clause-among g c =
    is_another c.args.entity c.args.one.now.number (c.args.two.now.number ∷ c.args.three.now.number ∷ []) c.is_of.result c.is_of.ensures c.if-is_of.false c.requires.among

pub returns-clause-others : goal.returns-clause-others
returns-clause-others g c =
    others_more c.args.one.now.number (c.args.two.now.number ∷ c.args.three.now.number ∷ []) c.args.all.now c.snap_of_two.new.all c.snap_of_two.ensures.others
