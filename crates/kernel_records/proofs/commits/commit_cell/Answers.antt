use Rattle.std.proofs.Common.{inl, sym, ◌∙◌}
use Rattle.edge_disk.proofs.Phases.{LeavesOnly-start, told}
use Rattle.kernel_block_laws.specs.store_books.Between.{stored_each}
use Rattle.kernel_block_laws.specs.store_books.Books.{kept_of, recs_in}
use Rattle.store_snapshots.specs.store_facts.State.{books}
use Rattle.kernel_records.specs.Committing.{StoresKeptOrCell}
use Rattle.kernel_records.proofs.Leaving.{not_committed}
use Rattle.kernel_records.proofs.commits.commit_cell.Goals as goal

pub returns-then-is_shut-clause-unmade : goal.returns-then-is_shut-clause-unmade
returns-then-is_shut-clause-unmade g c =
    let changed = sym c.is_recorded.ensures ∙ c.if-is_recorded.false in
    not_committed g.D.Disk c.args.cell.now c.args.store.now (c.requires.may changed).table c.held_law.ensures (λ image t left. g.met.D.Disk.only_now c.args.store.now.disk image t left)

pub returns-then-free-need-clause-unmade : goal.returns-then-free-need-clause-unmade
returns-then-free-need-clause-unmade g c =
    let changed = sym c.is_recorded.ensures ∙ c.if-is_recorded.false in
    not_committed g.D.Disk c.args.cell.now c.args.store.now (c.requires.may changed).table c.held_law.ensures (λ image t left. g.met.D.Disk.only_now c.args.store.now.disk image t left)

pub returns-then-free-need-clause-any_moment : goal.returns-then-free-need-clause-any_moment
returns-then-free-need-clause-any_moment g c = λ t changed working small own.
    let st = c.args.store.now in
    LeavesOnly-start (told g.D.Disk t g.met.D.Disk.counts_now g.met.D.Disk.only_now) st.disk (StoresKeptOrCell g.D.Disk c.args.cell.now c.args.cell.now st)
    (λ image may. inl (stored_each g.D.Disk (books st).count (books st).place (recs_in (books st)) (kept_of (g.D.Disk.reading st.disk) (books st)) st.disk ((c.requires.true_books t).stored small working) image may))
