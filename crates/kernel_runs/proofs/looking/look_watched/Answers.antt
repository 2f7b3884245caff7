use Rattle.std.proofs.Common.{◌++◌, ◌∷◌, []}
use Rattle.kernel_run_facts.proofs.kernel_commit_facts_lemmas.Counting.{CountsWithin-then}
use Rattle.kernel_run_facts.proofs.kernel_commits_lemmas.Telling.{answers_behind}
use Rattle.kernel_run_facts.specs.Running.{look_most}
use Rattle.kernel_run_facts.specs.Watching.{answer_of}
use Rattle.kernel_run_facts.proofs.Watched.{cause_behind, cut_before, next_look, stopped_for}
use Rattle.kernel_runs.proofs.looking.look_watched.Goals as goal

pub returns-in-Err-clause-run : goal.returns-in-Err-clause-run
returns-in-Err-clause-run g c = λ told b first looked given begins goes.
    let old = c.args.kernel.now in
    let new = c.look_at.new.kernel in
    let stop = stopped_for g.D.Disk (g.P.Policy.wish c.args.gate.now.policy) old.parts new.parts c.in-Err.stop new.stop c.in-Err.ensures.ends c.in-Err.ensures.caused in
    cut_before g.D.Disk (g.W.Watcher.watches c.args.watcher.now) (g.W.Watcher.leaves c.args.watcher.now) b first old.parts.noted.entries new stop.0 stop.1
    ((c.in-Err.ensures.run told b first looked given begins goes.along).stopped stop.0 stop.1) goes.knows (c.in-Err.ensures.grows told b given goes.along.lives)

pub returns-clause-caused : goal.returns-clause-caused
returns-clause-caused g c =
    cause_behind g.D.Disk (g.P.Policy.wish c.args.gate.now.policy) c.args.kernel.now.parts c.look_at.new.kernel.parts c.ask.new.kernel.parts (answer_of c.ask.result) c.look_at.ensures.counts.later c.ask.ensures.lent.counts.later
    (c.ask.ensures.caused (g.P.Policy.wish c.args.gate.now.policy))

pub returns-clause-tries : goal.returns-clause-tries
returns-clause-tries g c =
    answers_behind (answer_of c.ask.result) c.args.kernel.now.parts.noted.entries c.look_at.new.kernel.parts.noted.entries c.ask.new.kernel.parts.noted.entries c.in_default.ensures.tries c.ask.ensures.tries

pub returns-clause-clean : goal.returns-clause-clean
returns-clause-clean g c = c.ask.ensures.lent.clean (g.S.Supplier.word c.args.gate.now.supply) c.look_at.ensures.clean

pub returns-clause-counts : goal.returns-clause-counts
returns-clause-counts g c =
    CountsWithin-then g.D.Disk look_most 0 c.args.kernel.now.parts.store c.look_at.new.kernel.parts.store c.ask.new.kernel.parts.store c.look_at.ensures.counts c.ask.ensures.lent.counts

pub returns-clause-run : goal.returns-clause-run
returns-clause-run g c = λ told b first looked given begins goes.
    let es = c.args.kernel.now.parts.noted.entries in
    let along = (c.in_default.ensures.run told b first looked given begins goes.along).along c.in_default.ensures.ends in
    c.ask.ensures.knows told b first (looked ++ c.args.locus ∷ []) es goes.knows (next_look b looked c.args.locus es c.look_at.new.kernel.parts.noted.entries goes.along.looks along.looks) begins along
