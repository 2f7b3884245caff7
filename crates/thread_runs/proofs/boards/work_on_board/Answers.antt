use denote.Param.Send.{sendable}
use contract.BorrowLft.{⊑_static}
use Rattle.std.proofs.Common.{◌≡◌, None, refl, sym, subst}
use Rattle.kernel_runs.specs.kernel_core_facts.Kernels.{Held, Lives, StaysClean}
use Rattle.kernel_runs.specs.kernel_run_facts.Alongs.{IsAlong}
use Rattle.thread_workers.specs.thread_desk.Desks.{IsCountedFrom}
use Rattle.thread_runs.specs.Parts.{HaveWorked}
use Rattle.thread_runs.specs.Ran.{IsSpokenOf, counts_of}
use Rattle.thread_runs.proofs.Counted.{counted_now}
use Rattle.thread_runs.proofs.boards.work_on_board.Goals as goal

-- what is asked stands behind the lifetimes of six types and nine bounds
pub on_board-requires : goal.on_board-requires
on_board-requires g c κs within =
    let d = g.D.Disk in
    let same = sym c.in-Ok.ensures.ok in
    let bounds = c.requires.1.1.1.1.1 in
    let asked = bounds.1.1.1.1.1.1.1 in
    (within.0, (within.1.0, (within.1.1.0, (within.1.1.1.0, (within.1.1.1.1, (search ⊑_static, (bounds.0, (bounds.1.0, (bounds.1.1.0, (search sendable depth 20, (bounds.1.1.1.0, (bounds.1.1.1.1.0, (bounds.1.1.1.1.1.0, (bounds.1.1.1.1.1.1.0, (search sendable depth 20, (refl, (((refl, refl), ((refl, refl), ((refl, refl), (refl, (refl, (refl, refl)))))), (asked.0, (asked.1.0, (counted_now d c.in-Ok.opening.kernel (subst (λ (k : Held g.row.D.Denot). k.stop ≡ None) same asked.1.1.0), (subst (StaysClean d g.b.supply) same asked.1.1.1, λ spoken. spoken)))))))))))))))))))))

pub returns-in-Ok-clause-counted : goal.returns-in-Ok-clause-counted
returns-in-Ok-clause-counted g c =
    let d = g.D.Disk in
    subst (λ (k : Held g.row.D.Denot). IsCountedFrom d (counts_of d k) c.on_board.result.kernel) c.in-Ok.ensures.ok c.on_board.ensures.counted

pub returns-in-Ok-clause-run : goal.returns-in-Ok-clause-run
returns-in-Ok-clause-run g c = λ spoken. c.on_board.ensures.run (subst (IsSpokenOf g.D.Disk g.b) (sym c.in-Ok.ensures.ok) spoken)

pub returns-in-Ok-clause-along : goal.returns-in-Ok-clause-along
returns-in-Ok-clause-along g c = λ spoken. c.on_board.ensures.along (subst (IsSpokenOf g.D.Disk g.b) (sym c.in-Ok.ensures.ok) spoken)

pub returns-in-Ok-clause-worked : goal.returns-in-Ok-clause-worked
returns-in-Ok-clause-worked g c = λ fed.
    let d = g.D.Disk in
    subst (λ (k : Held g.row.D.Denot). HaveWorked (IsSpokenOf d g.b k) g.b c.args.workers c.on_board.result.kernel) c.in-Ok.ensures.ok (c.on_board.ensures.worked fed)

pub returns-in-Err-clause-counted : goal.returns-in-Err-clause-counted
returns-in-Err-clause-counted g c =
    let d = g.D.Disk in
    subst (IsCountedFrom d (counts_of d c.args.kernel)) (sym c.in-Err.ensures.err) (counted_now d c.args.kernel c.requires.1.1.1.1.1.1.1.1.1.1.1.1.1.1.0)

pub returns-in-Err-clause-clean : goal.returns-in-Err-clause-clean
returns-in-Err-clause-clean g c = subst (StaysClean g.D.Disk g.b.supply) (sym c.in-Err.ensures.err) c.requires.1.1.1.1.1.1.1.1.1.1.1.1.1.1.1

pub returns-in-Err-clause-run : goal.returns-in-Err-clause-run
returns-in-Err-clause-run g c = λ spoken. subst (Lives g.D.Disk g.b) (sym c.in-Err.ensures.err) spoken.1

pub returns-in-Err-clause-along : goal.returns-in-Err-clause-along
returns-in-Err-clause-along g c = λ spoken. subst (IsAlong g.D.Disk g.b) (sym c.in-Err.ensures.err) spoken.2
