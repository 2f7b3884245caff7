use Rattle.std.proofs.Common.{◌≡◌, [], refl, sym, subst, arith}
use Rattle.std.specs.Prelude.{count_by}
use Rattle.kernel_runs.specs.kernel_invariant.Marks.{is_step}
use Rattle.kernel_watchers.specs.Steps.{IsWithin, StepsLeave}
use Rattle.kernel_watchers.proofs.Steps.{steps_leave}
use Rattle.kernel_watchers.proofs.limiting.limited.Goals as goal

pub returns-clause-run : goal.returns-clause-run
returns-clause-run g c = λ told going b supply policy script lives.
    let w = c.run_watched in
    let n = c.new-limit.result in
    let left = c.new-limit.ensures.left in
    let same = c.requires.same in
    let some = c.requires.some in
    let none : count_by is_step [] ≡ 0 = refl in
    let starts : IsWithin g.N.MostSteps.steps n.left n.noted [] = record { entries = c.new-limit.ensures.noted; made = omega (arith, left, same, none); more = omega (arith, left, some) } in
    subst (λ steps. StepsLeave g.D.Disk b steps w.result w.new.kernel) (sym same)
    (steps_leave g.D.Disk b g.N.MostSteps.steps w.new.watcher.left w.new.watcher.noted w.new.kernel w.result (w.ensures.run told going b supply policy script lives starts))
