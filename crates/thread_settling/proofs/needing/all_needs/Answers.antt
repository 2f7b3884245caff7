use Rattle.std.proofs.Common.{map, get_or, refl, ap, ◌∙◌, arith}
use Rattle.std.specs.Sync.Mutex.{mutex_guard_value}
use Rattle.thread_commits.specs.kernel_commit_facts.store_facts.State.{books}
use Rattle.thread_commits.specs.kernel_commit_facts.store_books.Books.{kept_names}
use Rattle.thread_settling.proofs.Lent.{lent_here, lent_need, same_back}
use Rattle.thread_settling.proofs.needing.all_needs.Goals as goal

pub overflow_add-sum : goal.overflow_add-sum
overflow_add-sum g c =
    let k = g.C.CellInLock.keeping c.deref_mut-cell.result.now in
    let again = lent_here (λ it. g.C.CellInLock.keeping (mutex_guard_value it)) c.loop-i.cells c.loop-i.i (get_or c.loop-i.cells c.loop-i.i c.index-cells-i.result) k (ap g.C.CellInLock.keeping c.deref_mut-cell.ensures.value) (ap (get_or c.loop-i.cells c.loop-i.i) c.index-cells-i.is) in
    let next = lent_need (books c.args.store.now).held (kept_names (books c.args.store.now)) c.args.all.now c.loop-i.all (map (λ it. g.C.CellInLock.keeping (mutex_guard_value it)) c.args.cells.now) (map (λ it. g.C.CellInLock.keeping (mutex_guard_value it)) c.loop-i.cells) c.loop-i.i k c.requires.orderly c.requires.row c.loop-i.invariant.cells c.loop-i.invariant.all (omega arith) again c.need_lent-sum.ensures.stands in
    let lt = c.loop-i-test.true in
    let few = c.loop-i.invariant.few in
    let need = c.need_lent-sum.ensures.need in
    let most = next.1 in
    omega (arith, lt, few, need, most)

pub loop-i-preserved : goal.loop-i-preserved
loop-i-preserved g c =
    let k = g.C.CellInLock.keeping c.deref_mut-cell.result.now in
    let again = lent_here (λ it. g.C.CellInLock.keeping (mutex_guard_value it)) c.loop-i.cells c.loop-i.i (get_or c.loop-i.cells c.loop-i.i c.index-cells-i.result) k (ap g.C.CellInLock.keeping c.deref_mut-cell.ensures.value) (ap (get_or c.loop-i.cells c.loop-i.i) c.index-cells-i.is) in
    let next = lent_need (books c.args.store.now).held (kept_names (books c.args.store.now)) c.args.all.now c.loop-i.all (map (λ it. g.C.CellInLock.keeping (mutex_guard_value it)) c.args.cells.now) (map (λ it. g.C.CellInLock.keeping (mutex_guard_value it)) c.loop-i.cells) c.loop-i.i k c.requires.orderly c.requires.row c.loop-i.invariant.cells c.loop-i.invariant.all (omega arith) again c.need_lent-sum.ensures.stands in
    let need = c.need_lent-sum.ensures.need in
    let so_far = c.loop-i.invariant.sum in
    let few = c.loop-i.invariant.few in
    let more = next.0 in
    let most = next.1 in
    record {
      all = c.need_lent-sum.ensures.all ∙ c.loop-i.invariant.all;
      cells = same_back (λ it. g.C.CellInLock.keeping (mutex_guard_value it)) c.loop-i.cells c.loop-i.i _ (g.C.CellInLock.keeping c.need_lent-sum.new.cell) k refl again c.need_lent-sum.ensures.cell ∙ c.loop-i.invariant.cells;
      sum = omega (arith, need, so_far, more);
      few = omega (arith, need, few, most);
    }
