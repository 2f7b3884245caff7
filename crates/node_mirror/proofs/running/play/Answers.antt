use Rattle.std.proofs.Common.{sym, subst}
use Rattle.std.specs.Prelude.{IfErr, Result, ⊤}
use Rattle.kernel_run_facts.specs.Running.{IsCauseOf}
use Rattle.kernel_run_facts.specs.kernel_commits.Telling.{Tells, TriesByAnswer}
use Rattle.kernel_run_facts.specs.kernel_commits.declared.stopping.Stop.{Stop}
use Rattle.node_mirror.proofs.Ending.{course_run, follows_run, part_same, run_leaves, ships_run}
use Rattle.node_mirror.proofs.running.play.Goals as goal

pub returns-clause-kernel : goal.returns-clause-kernel
returns-clause-kernel g c =
    let old = c.args.kernel.now in
    let new = c.run_watched-ran.new.kernel in
    let ran = c.run_watched-ran.ensures in
    let same = sym (part_same c.run_watched-ran.result c.end_with.result.went c.end_with.ensures.ends) in
    record {
      ends = subst (λ (r : Result ⊤ Stop). Tells r new.stop) same (ran.ends c.requires.going);
      caused = subst (λ (r : Result ⊤ Stop). IfErr r (IsCauseOf g.D.Disk (g.P.Policy.wish c.args.gate.now.policy) old.parts new.parts)) same (ran.caused c.requires.going);
      tries = subst (λ (r : Result ⊤ Stop). TriesByAnswer r old.parts.noted.entries new.parts.noted.entries) same ran.tries;
      clean = ran.clean;
      counts = ran.counts;
    }

pub returns-clause-run : goal.returns-clause-run
returns-clause-run g c = λ told b begins watches.
    let left = c.run_watched-ran.ensures.run told c.requires.going b begins.same_supply begins.same_policy begins.same_script begins.lives watches in
    run_leaves g.D.Disk _ _ b c.run_watched-ran.new.kernel c.run_watched-ran.result c.end_with.result.went c.end_with.ensures.ends left

pub returns-clause-course : goal.returns-clause-course
returns-clause-course g c = λ told b begins watches.
    let left = c.run_watched-ran.ensures.run told c.requires.going b begins.same_supply begins.same_policy begins.same_script begins.lives watches in
    let w = c.run_watched-ran.new.watcher in
    course_run g.D.Disk g.E.Disk g.N.Since.began g.N.Since.words w.known w.noted w.line b c.run_watched-ran.new.kernel g.N.Since.loss c.run_watched-ran.result c.end_with.result.went c.end_with.result.offered c.end_with.result.standby.count
    w.kept.same_loss c.end_with.ensures.ends left c.end_with.ensures.last

pub returns-clause-follows : goal.returns-clause-follows
returns-clause-follows g c = λ told b begins watches starts.
    let left = c.run_watched-ran.ensures.run told c.requires.going b begins.same_supply begins.same_policy begins.same_script begins.lives watches in
    let w = c.run_watched-ran.new.watcher in
    let k = c.run_watched-ran.new.kernel in
    c.end_with.ensures.follows b k.parts.noted.entries
    (follows_run g.D.Disk g.E.Disk g.N.Since.began g.N.Since.words w.known w.noted w.line b k c.run_watched-ran.result starts left)
    (ships_run g.D.Disk g.E.Disk g.N.Since.began g.N.Since.words w.known w.noted w.line b k c.run_watched-ran.result left)
