use Rattle.std.proofs.Common.{sym, subst}
use Rattle.std.specs.Prelude.{IfErr}
use Rattle.base_types.specs.declared.histories.Entry.{Entry}
use Rattle.kernel_run_facts.specs.kernel_commits.Telling.{Tells, TriesByAnswer}
use Rattle.kernel_run_facts.specs.Running.{IsCauseOf}
use Rattle.kernel_run_facts.proofs.Alongs.{takes_look}
use Rattle.kernel_run_facts.proofs.Caused.{look_cause, tells_past, tries_past}
use Rattle.kernel_run_facts.proofs.Watched.{grows}
use Rattle.kernel_runs.proofs.looking.look_at.Goals as goal

pub returns-in-Ok-clause-run : goal.returns-in-Ok-clause-run
returns-in-Ok-clause-run g c = λ told b first looked given begins along.
    let s = c.step.ensures in
    takes_look g.D.Disk (g.S.Supplier.word c.args.gate.now.supply) (g.P.Policy.wish c.args.gate.now.policy) b first looked c.args.locus c.args.kernel.now c.step.new.self along begins
    (s.run told b given.same_supply given.same_policy along.lives) (s.notes told b given.same_supply given.same_policy along.lives c.requires.going)

pub returns-in-Err-clause-run : goal.returns-in-Err-clause-run
returns-in-Err-clause-run g c = λ told b first looked given begins along.
    let s = c.step.ensures in
    takes_look g.D.Disk (g.S.Supplier.word c.args.gate.now.supply) (g.P.Policy.wish c.args.gate.now.policy) b first looked c.args.locus c.args.kernel.now c.step.new.self along begins
    (s.run told b given.same_supply given.same_policy along.lives) (s.notes told b given.same_supply given.same_policy along.lives c.requires.going)

pub returns-in-Err-clause-ends : goal.returns-in-Err-clause-ends
returns-in-Err-clause-ends g c =
    subst (λ r. Tells r c.step.new.self.stop) (sym c.unless_idle.ensures) (tells_past Entry c.in-Err.stop c.step.new.self.stop (c.in-Err.ensures.ends c.requires.going))

pub returns-in-Err-clause-tries : goal.returns-in-Err-clause-tries
returns-in-Err-clause-tries g c =
    subst (λ r. TriesByAnswer r c.args.kernel.now.parts.noted.entries c.step.new.self.parts.noted.entries) (sym c.unless_idle.ensures)
    (tries_past Entry c.in-Err.stop c.args.kernel.now.parts.noted.entries c.step.new.self.parts.noted.entries c.in-Err.ensures.tries)

pub returns-in-Err-clause-caused : goal.returns-in-Err-clause-caused
returns-in-Err-clause-caused g c =
    let d = g.D.Disk in
    subst (λ r. IfErr r (IsCauseOf d (g.P.Policy.wish c.args.gate.now.policy) c.args.kernel.now.parts c.step.new.self.parts)) (sym c.unless_idle.ensures)
    (look_cause Entry d (g.P.Policy.wish c.args.gate.now.policy) c.args.locus c.args.kernel.now.parts c.step.new.self.parts c.in-Err.stop c.step.new.self.stop (c.in-Err.ensures.ends c.requires.going) (c.in-Err.ensures.stopped c.requires.going).stopped
    (c.in-Err.ensures.fails c.requires.going))

pub returns-in-Ok-clause-grows : goal.returns-in-Ok-clause-grows
returns-in-Ok-clause-grows g c = λ told b given lives.
    grows g.D.Disk b _ c.args.kernel.now c.step.new.self (c.step.ensures.notes told b given.same_supply given.same_policy lives c.requires.going)

pub returns-in-Err-clause-grows : goal.returns-in-Err-clause-grows
returns-in-Err-clause-grows g c = λ told b given lives.
    grows g.D.Disk b _ c.args.kernel.now c.step.new.self (c.step.ensures.notes told b given.same_supply given.same_policy lives c.requires.going)
