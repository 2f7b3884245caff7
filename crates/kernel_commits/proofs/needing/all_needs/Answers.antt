use Rattle.std.proofs.Common.{Some, sym, ap, ◌∙◌, arith, refl}
use Rattle.std.proofs.lemmas.Option.{slice_get-get_or}
use Rattle.kernel_commit_facts.specs.store_facts.State.{books}
use Rattle.kernel_commit_facts.specs.store_books.Books.{kept_names}
use Rattle.kernel_commit_facts.proofs.table_laws_lemmas.Needs.{formed_at, next_need}
use Rattle.kernel_commits.proofs.needing.all_needs.Goals as goal

pub loop-cell-init : goal.loop-cell-init
loop-cell-init g c = record { sum = refl; few = omega arith }

pub need_cell-sum-requires : goal.need_cell-sum-requires
need_cell-sum-requires g c = λ changed.
    formed_at (books c.args.store.now).held c.args.cells.now c.loop-cell.cell-index c.cell-item.result c.requires
    (slice_get-get_or c.args.cells.now c.loop-cell.cell-index c.cell-item.result c.loop-cell-test.true ∙ ap Some (sym c.cell-item.is))

pub overflow_add-sum : goal.overflow_add-sum
overflow_add-sum g c =
    let next = next_need (books c.args.store.now).held (kept_names (books c.args.store.now)) c.args.cells.now c.loop-cell.cell-index c.cell-item.result c.requires c.loop-cell-test.true c.cell-item.is in
    let len = c.requires.numbers.len in
    let lt = c.loop-cell-test.true in
    let few = c.loop-cell.invariant.few in
    let need = c.need_cell-sum.ensures in
    let most = next.1 in
    omega (arith, len, lt, few, need, most)

pub loop-cell-preserved : goal.loop-cell-preserved
loop-cell-preserved g c =
    let next = next_need (books c.args.store.now).held (kept_names (books c.args.store.now)) c.args.cells.now c.loop-cell.cell-index c.cell-item.result c.requires c.loop-cell-test.true c.cell-item.is in
    let need = c.need_cell-sum.ensures in
    let so_far = c.loop-cell.invariant.sum in
    let few = c.loop-cell.invariant.few in
    let more = next.0 in
    let most = next.1 in
    record { sum = omega (arith, need, so_far, more); few = omega (arith, need, few, most) }
