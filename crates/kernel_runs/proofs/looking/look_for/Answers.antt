use Rattle.std.proofs.Common.{◌≡◌, None, Some, refl, sym, ◌∙◌}
use Rattle.kernel_run_facts.specs.model_serial_turns.Turns.{before_pick}
use Rattle.kernel_run_facts.specs.Running.{look_most, opened_in, picks_in}
use Rattle.kernel_run_facts.specs.Watching.{LooksLeave}
use Rattle.kernel_run_facts.proofs.Alongs.{next_pick, takes_pick}
use Rattle.kernel_run_facts.proofs.kernel_commit_facts_lemmas.Counting.{CountsWithin-stay}
use Rattle.kernel_run_facts.proofs.kernel_commits_lemmas.Telling.{adds_none}
use Rattle.kernel_runs.proofs.looking.look_for.Goals as goal

pub returns-in-Some-clause-run : goal.returns-in-Some-clause-run
returns-in-Some-clause-run g c = λ told b i given here goes.
    let p = next_pick g.D.Disk (g.S.Supplier.word c.args.gate.now.supply) (g.P.Policy.wish c.args.gate.now.policy) b i c.args.name.now c.args.kernel.now given here goes.along in
    takes_pick g.D.Disk (g.S.Supplier.word c.args.gate.now.supply) (g.P.Policy.wish c.args.gate.now.policy)
    (λ looked. LooksLeave g.D.Disk (g.W.Watcher.watches c.look_watched.new.watcher) (g.W.Watcher.leaves c.look_watched.new.watcher) b (picks_in b) looked c.look_watched.result c.look_watched.new.kernel)
    b i c.args.name.now c.args.kernel.now c.in-Some.locus p
    (sym c.in-Some.is ∙ c.locus_called.ensures told b p.locus goes.along.lives p.named)
    (λ begins. c.look_watched.ensures.run told b (picks_in b) (before_pick b.script (opened_in b) i) given begins goes)

pub returns-in-None-clause-run : goal.returns-in-None-clause-run
returns-in-None-clause-run g c = λ told b i given here goes.
    let p = next_pick g.D.Disk (g.S.Supplier.word c.args.gate.now.supply) (g.P.Policy.wish c.args.gate.now.policy) b i c.args.name.now c.args.kernel.now given here goes.along in
    let none : None ≡ Some p.locus = sym c.in-None.is ∙ c.locus_called.ensures told b p.locus goes.along.lives p.named in
    absurd (cc none)

pub returns-in-None-clause-counts : goal.returns-in-None-clause-counts
returns-in-None-clause-counts g c = CountsWithin-stay g.D.Disk look_most c.args.kernel.now.parts.store

pub returns-in-None-clause-tries : goal.returns-in-None-clause-tries
returns-in-None-clause-tries g c = adds_none c.args.kernel.now.parts.noted.entries c.args.kernel.now.parts.noted.entries refl
