use Rattle.std.proofs.Common.{sym, ap, subst, ◌∙◌}
use Rattle.thread_cells.specs.Locked.{Keeping}
use Rattle.thread_commits.specs.kernel_commit_facts.cell_blobs.Blobs.{IsFormed}
use Rattle.thread_commits.specs.kernel_commit_facts.cell_states.declared.cells.Cell.{Cell as ACell}
use Rattle.thread_commits.specs.kernel_commit_facts.store_facts.State.{books}
use Rattle.thread_commits.proofs.kernel_commit_facts_lemmas.table_laws_lemmas.Needs.{formed_at}
use Rattle.thread_settling.proofs.needing.need_lent.Goals as goal

pub need_cell-requires : goal.need_cell-requires
need_cell-requires g c = λ changed.
    let k = g.C.CellInLock.keeping c.args.cell.now in
    subst (λ (z : ACell). IsFormed z.part) (sym (c.as_cell.ensures ∙ ap (λ (z : Keeping). z.cell) c.meet.ensures.cell))
    (formed_at (books c.args.store.now).held c.args.all.now k.number k.cell c.requires.orderly c.meet.ensures.stands)
