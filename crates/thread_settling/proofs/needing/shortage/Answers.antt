use Rattle.thread_commits.specs.kernel_commit_facts.Parts.{parts_of}
use Rattle.thread_commits.proofs.kernel_commit_facts_lemmas.Fitting.{none_fits}
use Rattle.thread_settling.proofs.needing.shortage.Goals as goal

pub returns-clause-some : goal.returns-clause-some
returns-clause-some g c = λ noted.
    let d = g.D.Disk in
    none_fits d (parts_of c.args.store.now c.args.all.now noted) c.all_needs-need.result c.free-free.result c.all_needs-need.ensures.sum c.free-free.ensures c.if-free-need.false
