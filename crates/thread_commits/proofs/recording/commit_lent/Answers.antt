use Rattle.std.proofs.Common.{slice_get, OnOk, OnErr, refl, sym, ap, ◌∙◌, subst}
use Rattle.thread_cells.specs.Locked.{Keeping}
use Rattle.thread_cells.proofs.Meeting.{met, put_back}
use Rattle.kernel_commit_facts.specs.Recording.{HasMade, HasNotMade}
use Rattle.kernel_commit_facts.proofs.Committing.{made, may_be, set_faults, unmade}
use Rattle.thread_commits.proofs.recording.commit_lent.Goals as goal

pub commit_cell-made-requires-clause-may : goal.commit_cell-made-requires-clause-may
commit_cell-made-requires-clause-may g c = λ changed.
    let cs = c.args.all.now in
    let a = c.cell.inside.cell in
    let is = met cs c.cell.inside.fragment a.clock.entity a c.cell.invariant.0 c.cell.invariant.2 c.agree.ensures.agreed in
    let number = ap (λ (k : Keeping). k.number) c.cell.view_is in
    may_be g.D.Disk c.args.cell.now.number cs c.args.store.now c.requires.can a (ap (slice_get cs) (sym number) ∙ is)

pub returns-clause-made : goal.returns-clause-made
returns-clause-made g c =
    let cs = c.args.all.now in
    let a = c.cell.inside.cell in
    let d = c.commit_cell-made.new.cell in
    let x = c.args.cell.now.number in
    let is = met cs c.cell.inside.fragment a.clock.entity a c.cell.invariant.0 c.cell.invariant.2 c.agree.ensures.agreed in
    let number = ap (λ (k : Keeping). k.number) c.cell.view_is in
    let back = put_back cs c.agree.new.self c.tell.new.all c.cell.inside.fragment c.agree.new.fragment c.args.cell.now.number d c.tell.ensures.all c.agree.ensures.authority c.agree.ensures.fragment (c.cell.invariant.0 ∙ number) in
    subst (λ l. OnOk c.commit_cell-made.result (HasMade g.D.Disk x cs l c.args.store.now c.commit_cell-made.new.store)) (sym back)
    (made g.D.Disk x x refl cs c.args.store.now c.commit_cell-made.new.store c.requires.can a d (ap (slice_get cs) (sym number) ∙ is)
    c.commit_cell-made.ensures.any_moment c.commit_cell-made.result c.commit_cell-made.ensures.made c.commit_cell-made.ensures.true_books)

pub returns-clause-unmade : goal.returns-clause-unmade
returns-clause-unmade g c =
    let cs = c.args.all.now in
    let a = c.cell.inside.cell in
    let d = c.commit_cell-made.new.cell in
    let x = c.args.cell.now.number in
    let is = met cs c.cell.inside.fragment a.clock.entity a c.cell.invariant.0 c.cell.invariant.2 c.agree.ensures.agreed in
    let number = ap (λ (k : Keeping). k.number) c.cell.view_is in
    let back = put_back cs c.agree.new.self c.tell.new.all c.cell.inside.fragment c.agree.new.fragment c.args.cell.now.number d c.tell.ensures.all c.agree.ensures.authority c.agree.ensures.fragment (c.cell.invariant.0 ∙ number) in
    subst (λ l. OnErr c.commit_cell-made.result (HasNotMade g.D.Disk x cs l c.args.store.now c.commit_cell-made.new.store)) (sym back)
    (unmade g.D.Disk x x refl cs c.args.store.now c.commit_cell-made.new.store c.requires.can a d (ap (slice_get cs) (sym number) ∙ is)
    c.commit_cell-made.ensures.any_moment c.commit_cell-made.result c.commit_cell-made.ensures.unmade)

pub returns-clause-faults : goal.returns-clause-faults
returns-clause-faults g c = λ k z at is.
    let cs = c.args.all.now in
    let a = c.cell.inside.cell in
    let d = c.commit_cell-made.new.cell in
    let x = c.args.cell.now.number in
    let met_is = met cs c.cell.inside.fragment a.clock.entity a c.cell.invariant.0 c.cell.invariant.2 c.agree.ensures.agreed in
    let number = ap (λ (k : Keeping). k.number) c.cell.view_is in
    let back = put_back cs c.agree.new.self c.tell.new.all c.cell.inside.fragment c.agree.new.fragment c.args.cell.now.number d c.tell.ensures.all c.agree.ensures.authority c.agree.ensures.fragment (c.cell.invariant.0 ∙ number) in
    set_faults g.D.Disk.faults c.commit_cell-made.result x x refl cs c.args.store.now c.commit_cell-made.new.store a d k z (ap (slice_get cs) (sym number) ∙ met_is) at (ap (λ l. slice_get l x) (sym back) ∙ is) c.commit_cell-made.ensures.faults
