use Rattle.std.proofs.Common.{◌≡◌, ℕ, ◌+◌, ◌≤◌, length, arith}
use Rattle.std.proofs.lemmas.Result.{err_from_is_err_and}
use Rattle.edge_disk.proofs.Ticks.{Rose-before}
use Rattle.kernel_record_facts.specs.cell_blobs.Blobs.{blob_need, bytes_of, spelt_in}
use Rattle.kernel_record_facts.specs.Cells.{table_of}
use Rattle.kernel_records.specs.Committing.{HasRecord}
use Rattle.kernel_records.specs.store_books.Books.{AreTrue, free_in}
use Rattle.kernel_records.specs.store_facts.State.{books}
use Rattle.kernel_records.proofs.Freeing.{record_frees}
use Rattle.kernel_records.proofs.Rests.{held_pages}
use Rattle.store_snapshots.specs.declared.faults.StoreFault.TheVariants.{WriteFault}
use Rattle.copy_commits.proofs.Behind.{may_second}
use Rattle.copy_commits.proofs.Coming.{both_ok}
use Rattle.copy_commits.proofs.Pairing.{behind_both, by_both, by_first}
use Rattle.copy_commits.proofs.pairs.commit_pair.Goals as goal

pub record_cell-requires-2-clause-may : goal.record_cell-requires-2-clause-may
record_cell-requires-2-clause-may g c =
    may_second (books c.args.store.now) (books c.record_cell.new.store) c.args.atlas.now c.args.copy.now (length (bytes_of (spelt_in c.args.atlas.now.part))) c.requires.may c.in_ok-record_cell.ensures.made.made

pub record_cell-requires-2-clause-free : goal.record_cell-requires-2-clause-free
record_cell-requires-2-clause-free g c =
    let k = c.args.atlas.now.clock in
    let frees : free_in (books c.args.store.now) ≤ free_in (books c.record_cell.new.store) + blob_need c.args.atlas.now.part =
    record_frees (books c.args.store.now) (books c.record_cell.new.store) k.entity k.version (length (bytes_of (spelt_in c.args.atlas.now.part))) k.stamp.0 (table_of c.args.atlas.now.part) c.in_ok-record_cell.ensures.made.made
    (held_pages (books c.args.store.now).held c.args.atlas.now.part c.requires.may.first.table) in
    left (blob_need c.args.atlas.now.part) (blob_need c.args.copy.now.part) (free_in (books c.args.store.now)) (free_in (books c.record_cell.new.store)) c.requires.free frees
  where
    left : (a n free now : ℕ) → a + n ≤ free → free ≤ now + a → n ≤ now
    left a n free now room frees = omega arith

pub returns-in_err-record_cell-clause-any_moment : goal.returns-in_err-record_cell-clause-any_moment
returns-in_err-record_cell-clause-any_moment g c = λ t s name fresh v w tables are.
    by_first g.D.Disk s name fresh v w c.args.store.now c.record_cell.new.store tables c.args.atlas.now c.args.copy.now t c.requires.may are c.record_cell.ensures.spelt (c.record_cell.ensures.any_moment t)

pub returns-in_err-record_cell-clause-failed : goal.returns-in_err-record_cell-clause-failed
returns-in_err-record_cell-clause-failed g c = λ e is.
    let p = err_from_is_err_and c.from_residual.result c.from_residual.ensures.1 in
    let handed : p.0 ≡ c.in_err-record_cell.field-0.0 = p.2 in
    let failed = c.record_cell.ensures.failed c.in_err-record_cell.field-0.0 c.in_err-record_cell.was in
    let why : c.in_err-record_cell.field-0.0 ≡ WriteFault = failed.0 in
    let same : e ≡ WriteFault = cc (p.1, handed, why, is) in
    (same, failed.1, failed.2.shut)

pub returns-clause-any_moment : goal.returns-clause-any_moment
returns-clause-any_moment g c = λ t s name fresh v w tables are.
    let f = c.record_cell.ensures in
    by_both g.D.Disk s name fresh v w c.args.store.now c.record_cell.new.store tables c.args.atlas.now c.args.copy.now t c.requires.may are f.spelt (f.any_moment t)
    c.record_cell-2.new.store c.record_cell-2.ensures.spelt (c.requires.true_books t) c.requires.working c.in_ok-record_cell.ensures.made (f.same_used t) (c.in_ok-record_cell.ensures.true_books t)
    (c.record_cell-2.ensures.any_moment t) (λ d image told left. g.met.D.Disk.only_now d image told left)

pub returns-clause-done : goal.returns-clause-done
returns-clause-done g c = λ t.
    let f = c.record_cell.ensures in
    let h = c.record_cell-2.ensures in
    both_ok c.record_cell-2.result h.made (h.true_books t) (λ (made : HasRecord g.D.Disk c.args.copy.now c.record_cell.new.store c.record_cell-2.new.store) (right : AreTrue g.D.Disk (books c.record_cell-2.new.store) c.record_cell-2.new.store.disk). λ s name fresh v w tables are.
    behind_both g.D.Disk s name fresh v w c.args.store.now c.record_cell.new.store tables c.args.atlas.now c.args.copy.now t c.requires.may are f.spelt (f.any_moment t)
    c.record_cell-2.new.store h.spelt (c.requires.true_books t) c.requires.working c.in_ok-record_cell.ensures.made (f.same_used t) (c.in_ok-record_cell.ensures.true_books t)
    (h.any_moment t) (λ d image told left. g.met.D.Disk.only_now d image told left) made (h.same_used t) right g.met.D.Disk.counts_now)

pub returns-clause-failed : goal.returns-clause-failed
returns-clause-failed g c = λ e is.
    let why = c.record_cell-2.ensures.failed e is in
    (why.0, Rose-before (g.D.Disk.faults c.args.store.now.disk) (g.D.Disk.faults c.record_cell.new.store.disk) (g.D.Disk.faults c.record_cell-2.new.store.disk) c.record_cell.ensures.begins.later c.record_cell-2.ensures.begins.later why.1, why.2.shut)
