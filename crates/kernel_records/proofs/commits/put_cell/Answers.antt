use Rattle.std.proofs.Common.{◌≡◌, ℕ, ◌+◌, ◌-◌, ◌≤◌, Bool, true, false, refl, sym, ◌∙◌, arith}
use Rattle.std.specs.Prelude.{IfErr, OnOk, Result, Ok, Err}
use Rattle.std.specs.Result.{is_err}
use Rattle.std.proofs.lemmas.Result.{err_from_is_err_and}
use Rattle.edge_disk.specs.Counts.{Rose}
use Rattle.edge_disk.proofs.Ticks.{Rose-before}
use Rattle.edge_tally.proofs.Counting.{CountsOn-then}
use Rattle.kernel_block_laws.specs.store_books.Books.{free_in, kept_names}
use Rattle.store_snapshots.specs.store_facts.State.{State, books}
use Rattle.store_snapshots.specs.declared.faults.StoreFault.TheVariants.{WriteFault}
use Rattle.page_store.specs.Pages.{IsWriteFault}
use Rattle.page_store.specs.declared.faults.PageFault.{PageFault}
use Rattle.cell_wish_laws.specs.page_memory.Calls.{IsCausedBy}
use Rattle.cell_wish_laws.specs.cell_states.declared.cells.Cell.{Cell}
use Rattle.kernel_record_facts.specs.cell_blobs.Blobs.{blob_need, page_need}
use Rattle.kernel_record_facts.specs.Cells.{IsSettled, words_on}
use Rattle.kernel_records.proofs.Joining.{failed_by, may_again, moments_pages, moments_then, small_on}
use Rattle.kernel_records.proofs.Leaving.{failed_commit, failed_pages, made_commit}
use Rattle.kernel_records.proofs.Spelling.{same_need}
use Rattle.kernel_records.proofs.commits.put_cell.Goals as goal

worked : {T E : Type 0} {P : Type 0} (r : Result T E) → is_err r ≡ false → OnOk r P → P
worked (Ok x) e h = h
worked (Err e) is h = absurd (cc is)

failed_flush : {T : Type 0} (r : Result T PageFault) (free before now : ℕ) (was is : Bool) → is_err r ≡ true → IfErr r IsWriteFault → IfErr r (IsCausedBy free before now was is) → was ≡ false → Rose before now × (is ≡ true)
failed_flush (Ok x) free before now was is e h cause working = absurd (cc e)
failed_flush (Err e) free before now was is failed h cause working = failed_by e free before now was is h cause working

pub record_cell-requires-clause-may : goal.record_cell-requires-clause-may
record_cell-requires-clause-may g c =
    let f = c.flush_part-flushed.ensures in
    let d : Cell = record c.args.cell.now { part = c.flush_part-flushed.new.part } in
    may_again g.D.Disk.tells (λ (st : State g.row.D.Denot). (books st).held) (λ (st : State g.row.D.Denot). kept_names (books st)) (λ (st : State g.row.D.Denot). words_on (g.D.Disk.reading st.disk))
    c.args.store.now c.flush_part-flushed.new.store (books c.args.store.now) (books c.flush_part-flushed.new.store) c.args.cell.now d refl f.flushes f.table f.between.only.same_logged f.between.only.same_place f.between.only.same_found c.requires.may

pub record_cell-requires-clause-free : goal.record_cell-requires-clause-free
record_cell-requires-clause-free g c =
    let f = c.flush_part-flushed.ensures in
    let free = worked c.flush_part-flushed.result (sym c.is_err.ensures.value ∙ c.if-is_err.false) f.free in
    let same : blob_need c.flush_part-flushed.new.part ≡ blob_need c.args.cell.now.part =
    same_need g.D.Disk.tells (λ (st : State g.row.D.Denot). (books st).held) (λ (st : State g.row.D.Denot). kept_names (books st)) (λ (st : State g.row.D.Denot). words_on (g.D.Disk.reading st.disk))
    (books c.flush_part-flushed.new.store).held c.args.cell.now.part c.flush_part-flushed.new.part c.args.store.now c.flush_part-flushed.new.store f.flushes f.table c.requires.may.spellable.formed in
    fits (free_in (books c.args.store.now)) (free_in (books c.flush_part-flushed.new.store)) (page_need (kept_names (books c.args.store.now)) c.args.cell.now.part) (blob_need c.args.cell.now.part) (blob_need c.flush_part-flushed.new.part) free c.requires.free same
  where
    fits : (free free' pages blob blob' : ℕ) → free ≤ free' + pages → pages + blob ≤ free → blob' ≡ blob → blob' ≤ free'
    fits free free' pages blob blob' left room same = omega arith

-- A WRITE OF A PAGE FAILED

pub returns-then-is_err-clause-unmade : goal.returns-then-is_err-clause-unmade
returns-then-is_err-clause-unmade g c =
    let f = c.flush_part-flushed.ensures in
    failed_pages g.D.Disk c.args.cell.now c.flush_part-flushed.new.part c.args.store.now c.flush_part-flushed.new.store
    (record { flushes = f.flushes; only = f.between.only; table = f.table; means = f.means }) c.held_law.ensures

pub returns-then-is_err-clause-failed : goal.returns-then-is_err-clause-failed
returns-then-is_err-clause-failed g c = λ e is.
    let f = c.flush_part-flushed.ensures in
    let why = failed_flush c.flush_part-flushed.result (free_in (books c.args.store.now)) (g.D.Disk.faults c.args.store.now.disk) (g.D.Disk.faults c.flush_part-flushed.new.store.disk) (books c.args.store.now).shut (books c.flush_part-flushed.new.store).shut (sym c.is_err.ensures.value ∙ c.if-is_err.true) f.fault f.cause c.requires.working in
    let same : WriteFault ≡ e = cc is in
    (sym same, why.0, why.1)

pub returns-then-is_err-clause-any_moment : goal.returns-then-is_err-clause-any_moment
returns-then-is_err-clause-any_moment g c = λ t small own.
    let d : Cell = record c.args.cell.now { part = c.flush_part-flushed.new.part } in
    moments_pages g.D.Disk c.args.cell.now d c.args.store.now c.flush_part-flushed.new.store t
    c.flush_part-flushed.ensures.between.only (c.requires.true_books t) small c.requires.working

-- A WRITE OF THE RECORD FAILED

pub returns-in_err-record_cell-clause-unmade : goal.returns-in_err-record_cell-clause-unmade
returns-in_err-record_cell-clause-unmade g c =
    let f = c.flush_part-flushed.ensures in
    let p = err_from_is_err_and c.from_residual.result c.from_residual.ensures.1 in
    let failed = c.record_cell.ensures.failed c.in_err-record_cell.field-0.0 c.in_err-record_cell.was in
    rw p.1 (failed_commit g.D.Disk c.args.cell.now c.flush_part-flushed.new.part c.args.store.now c.flush_part-flushed.new.store c.record_cell.new.store
    (record { flushes = f.flushes; only = f.between.only; table = f.table; means = f.means }) c.held_law.ensures c.record_cell.ensures.same_used failed.2)

pub returns-in_err-record_cell-clause-failed : goal.returns-in_err-record_cell-clause-failed
returns-in_err-record_cell-clause-failed g c = λ e is.
    let p = err_from_is_err_and c.from_residual.result c.from_residual.ensures.1 in
    let gives : c.from_residual.result ≡ Err p.0 = p.1 in
    let handed : p.0 ≡ c.in_err-record_cell.field-0.0 = p.2 in
    let failed = c.record_cell.ensures.failed c.in_err-record_cell.field-0.0 c.in_err-record_cell.was in
    let why : c.in_err-record_cell.field-0.0 ≡ WriteFault = failed.0 in
    let same : e ≡ WriteFault = cc (gives, handed, why, is) in
    (same, Rose-before (g.D.Disk.faults c.args.store.now.disk) (g.D.Disk.faults c.flush_part-flushed.new.store.disk) (g.D.Disk.faults c.record_cell.new.store.disk) c.flush_part-flushed.ensures.faults c.record_cell.ensures.begins.later failed.1, failed.2.shut)

pub returns-in_err-record_cell-clause-any_moment : goal.returns-in_err-record_cell-clause-any_moment
returns-in_err-record_cell-clause-any_moment g c = λ t small own.
    let f = c.flush_part-flushed.ensures in
    let d : Cell = record c.args.cell.now { part = c.flush_part-flushed.new.part } in
    moments_then g.D.Disk c.args.cell.now d c.args.store.now c.flush_part-flushed.new.store t c.record_cell.new.store.disk
    (record { flushes = f.flushes; only = f.between.only; table = f.table; means = f.means }) c.record_cell.ensures.spelt (worked c.flush_part-flushed.result (sym c.is_err.ensures.value ∙ c.if-is_err.false) f.settled) (c.requires.true_books t) small c.requires.working
    (c.record_cell.ensures.any_moment t (small_on (books c.args.store.now) (books c.flush_part-flushed.new.store) f.between.only.same_small f.between.only.same_place small) own)

pub returns-in_err-record_cell-clause-counts : goal.returns-in_err-record_cell-clause-counts
returns-in_err-record_cell-clause-counts g c =
    let f = c.flush_part-flushed.ensures in
    let b = c.record_cell.ensures.begins in
    record {
      few = (let one = f.writes.few in let two = b.few in omega (arith, one, two));
      counts = CountsOn-then (g.D.Disk.clock c.args.store.now.disk) (g.D.Disk.clock c.flush_part-flushed.new.store.disk) (g.D.Disk.clock c.record_cell.new.store.disk) (books c.args.store.now).begun (books c.flush_part-flushed.new.store).begun (books c.record_cell.new.store).begun f.between.only.counts b.counts;
      later = (let one = f.faults in let two = b.later in omega (arith, one, two));
      same_count = (c.record_cell.ensures.failed c.in_err-record_cell.field-0.0 c.in_err-record_cell.was).2.same_count ∙ f.between.only.same_count;
    }

-- THE RECORD IS MADE

pub returns-clause-made : goal.returns-clause-made
returns-clause-made g c =
    let f = c.flush_part-flushed.ensures in
    let settled : IsSettled c.flush_part-flushed.new.part = worked c.flush_part-flushed.result (sym c.is_err.ensures.value ∙ c.if-is_err.false) f.settled in
    let free = worked c.flush_part-flushed.result (sym c.is_err.ensures.value ∙ c.if-is_err.false) f.free in
    made_commit g.D.Disk c.args.cell.now c.flush_part-flushed.new.part c.args.store.now c.flush_part-flushed.new.store c.record_cell.new.store
    (record { flushes = f.flushes; only = f.between.only; table = f.table; means = f.means }) c.held_law.ensures c.record_cell.ensures.same_used c.in_ok-record_cell.ensures.made c.record_cell.ensures.spelt settled
    free c.requires.may.spellable.formed

pub returns-clause-any_moment : goal.returns-clause-any_moment
returns-clause-any_moment g c = λ t small own.
    let f = c.flush_part-flushed.ensures in
    let d : Cell = record c.args.cell.now { part = c.flush_part-flushed.new.part; wish = record { by_step = false; asked = false; newest = c.args.cell.now.clock.version } } in
    moments_then g.D.Disk c.args.cell.now d c.args.store.now c.flush_part-flushed.new.store t c.record_cell.new.store.disk
    (record { flushes = f.flushes; only = f.between.only; table = f.table; means = f.means }) (record { spells = c.record_cell.ensures.spelt.spells; components = c.record_cell.ensures.spelt.components }) (worked c.flush_part-flushed.result (sym c.is_err.ensures.value ∙ c.if-is_err.false) f.settled) (c.requires.true_books t) small c.requires.working
    (c.record_cell.ensures.any_moment t (small_on (books c.args.store.now) (books c.flush_part-flushed.new.store) f.between.only.same_small f.between.only.same_place small) own)

pub returns-clause-counts : goal.returns-clause-counts
returns-clause-counts g c =
    let f = c.flush_part-flushed.ensures in
    let b = c.record_cell.ensures.begins in
    record {
      few = (let one = f.writes.few in let two = b.few in omega (arith, one, two));
      counts = CountsOn-then (g.D.Disk.clock c.args.store.now.disk) (g.D.Disk.clock c.flush_part-flushed.new.store.disk) (g.D.Disk.clock c.record_cell.new.store.disk) (books c.args.store.now).begun (books c.flush_part-flushed.new.store).begun (books c.record_cell.new.store).begun f.between.only.counts b.counts;
      later = (let one = f.faults in let two = b.later in omega (arith, one, two));
      same_count = c.in_ok-record_cell.ensures.made.made.same_count ∙ f.between.only.same_count;
    }
