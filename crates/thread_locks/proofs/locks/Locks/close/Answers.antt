use Rattle.std.proofs.Common.{ap, ◌∙◌}
use Rattle.kernel_run_facts.specs.kernel_core_facts.kernel_commit_facts.Parts.{Noted}
use Rattle.thread_items.specs.thread_desk.Desks.{Knowing}
use Rattle.thread_locks.proofs.Ending.{told_again}
use Rattle.thread_locks.proofs.locks.Locks.close.Goals as goal

pub returns-clause-items : goal.returns-clause-items
returns-clause-items g c =
    let was = c.into_inner.result.desk in
    let k = c.kernel_of-kernel.result in
    told_again g.B.Board.terms.told g.B.Board.begin was.noted.entries k.parts.noted.entries was.stop k.stop c.args.passes.items
    (ap (λ (n : Noted). n.entries) c.kernel_of-kernel.ensures.same.0 ∙ ap (λ (w : Knowing g.row.D.Denot). w.noted.entries) c.desk_of-desk.ensures.desk)
    (c.kernel_of-kernel.ensures.same.1 ∙ ap (λ (w : Knowing g.row.D.Denot). w.stop) c.desk_of-desk.ensures.desk)
    c.desk_of-desk.ensures.items
