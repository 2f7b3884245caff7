use Rattle.std.proofs.Common.{◌-◌, List, length, refl, ap, ◌∙◌}
use Rattle.std.specs.Prelude.{slice_get}
use Rattle.base_types.specs.declared.histories.Entry.{Entry}
use Rattle.kernel_runs.proofs.kernel_run_facts_lemmas.Watched.{lent_same}
use Rattle.kernel_watchers.specs.Steps.{steps_at}
use Rattle.kernel_watchers.proofs.Steps.{knows_steps}
use Rattle.kernel_watchers.proofs.limiting.StepLimitWatcher.after.Goals as goal

pub returns-clause-lent : goal.returns-clause-lent
returns-clause-lent g c = lent_same g.D.Disk c.args.kernel.now c.requires.going

pub returns-clause-knows : goal.returns-clause-knows
returns-clause-knows g c = λ told b es within shows.
    let now = c.args.kernel.now.parts.noted.entries in
    let old = c.args.self.now in
    let new = c.counts.new.self in
    knows_steps g.N.MostSteps.steps old.left new.left old.noted new.noted b es now now c.counts.result within shows.next refl
    (c.counts.ensures.left ∙ ap (λ (h : List Entry). old.left - steps_at (slice_get h old.noted)) c.history.ensures.entries) (c.counts.ensures.noted ∙ ap length c.history.ensures.entries) c.counts.ensures.answer
