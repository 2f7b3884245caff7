use Rattle.std.proofs.Common.{sym, subst, ◌∙◌}
use Rattle.kernel_core_facts.specs.kernel_commit_facts.Parts.{parts_of}
use Rattle.thread_looks.specs.Behind.{KeepsBehind}
use Rattle.thread_looks.proofs.After.{snaps_behind}
use Rattle.thread_stables.proofs.Settled.{stable_behind}
use Rattle.thread_stables.proofs.behind.keep_behind.Goals as goal

pub settle_lent-requires-clause-lawful : goal.settle_lent-requires-clause-lawful
settle_lent-requires-clause-lawful g c = λ i k is. tt

pub returns-then-owes_stable-clause-keeps : goal.returns-then-owes_stable-clause-keeps
returns-then-owes_stable-clause-keeps g c =
    let d = g.D.Disk in
    let wish = g.P.Policy.wish c.args.gate.now.policy in
    let e = c.args.made.now.entry in
    let old = parts_of c.args.store.now c.args.all.now c.args.notes.now in
    let new = parts_of c.settle_lent.new.store c.settle_lent.new.all c.settle_lent.new.notes in
    subst (λ t. KeepsBehind d wish t e c.settle_lent.result old new) (sym c.if-owes_stable.true ∙ c.owes_stable.ensures)
    (stable_behind d wish e c.settle_lent.result old new c.settle_lent.ensures.settles)

pub returns-clause-keeps : goal.returns-clause-keeps
returns-clause-keeps g c =
    let d = g.D.Disk in
    let wish = g.P.Policy.wish c.args.gate.now.policy in
    let e = c.args.made.now.entry in
    let old = parts_of c.args.store.now c.args.all.now c.args.notes.now in
    let new = parts_of c.snap_at.new.store c.snap_at.new.all c.snap_at.new.notes in
    subst (λ t. KeepsBehind d wish t e c.snap_at.result old new) (sym c.if-owes_stable.false ∙ c.owes_stable.ensures)
    (snaps_behind d wish e c.snap_at.result old new c.snap_at.ensures.snaps)
