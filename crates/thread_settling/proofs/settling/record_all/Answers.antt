use Rattle.std.proofs.Common.{◌≡◌, ◌+◌, map, get_or, refl, sym, ap, subst, arith, ◌∙◌}
use Rattle.std.specs.Sync.Mutex.{mutex_guard_value}
use Rattle.thread_commits.specs.kernel_commit_facts.Parts.{parts_of}
use Rattle.thread_commits.specs.kernel_commit_facts.Recording.{CanRecord}
use Rattle.thread_cells.specs.Locked.{Keeping}
use Rattle.thread_commits.proofs.Over.{over, same_parts}
use Rattle.thread_commits.proofs.Wished.{Records}
use Rattle.thread_settling.specs.Rows.{AllFit, AreSameSeats, IsRow}
use Rattle.thread_settling.proofs.Lent.{agrees, differs, fits_here, has_number, lent_here, row_back, seats_back}
use Rattle.thread_settling.proofs.Turns.{IsBehind, begins, ends, fails_turn, may_turn, passes_turn, records_turn}
use Rattle.thread_settling.proofs.settling.record_all.Goals.{then-not-recorded_lent+in_default, else-not-recorded_lent}
use Rattle.thread_settling.proofs.settling.record_all.Goals as goal

pub loop-i-init : goal.loop-i-init
loop-i-init g c = record {
  row = c.requires.row;
  seats = record { numbers = refl; known = refl };
  lawful = c.requires.lawful;
  behind = begins g.D.Disk (parts_of c.args.store.now c.args.all.now c.args.notes.now) c.requires.steady c.requires.fits;
}

pub make_record-requires-clause-can : goal.make_record-requires-clause-can
make_record-requires-clause-can g c =
    let d = g.D.Disk in
    let i = c.loop-i.i in
    let k = g.C.CellInLock.keeping c.deref_mut-cell.result.now in
    let ks = map (λ it. g.C.CellInLock.keeping (mutex_guard_value it)) c.loop-i.cells in
    let again = lent_here (λ it. g.C.CellInLock.keeping (mutex_guard_value it)) c.loop-i.cells c.loop-i.i (get_or c.loop-i.cells c.loop-i.i c.index-cells-i.result) k (ap g.C.CellInLock.keeping c.deref_mut-cell.ensures.value) (ap (get_or c.loop-i.cells c.loop-i.i) c.index-cells-i.is) in
    let t = c.recorded_lent.ensures in
    let number = has_number ks i k c.loop-i.invariant.row (omega arith) again in
    let apart = differs c.loop-i.all i k.number c.recorded_lent.result number t.recorded c.if-not-recorded_lent.true in
    let may = may_turn d (parts_of c.args.store.now c.args.all.now c.args.notes.now) c.requires.steady c.requires.fits i (parts_of c.loop-i.store c.loop-i.all c.loop-i.notes) c.loop-i.invariant.behind (omega arith) apart in
    over c.loop-i.all c.recorded_lent.new.all k (g.C.CellInLock.keeping c.recorded_lent.new.cell) (sym t.all) (sym t.cell) (λ l z. CanRecord d z.number l c.loop-i.store)
    (subst (λ x. CanRecord d x c.loop-i.all c.loop-i.store) (sym number) may.0)

pub make_record-requires-clause-entry_room : goal.make_record-requires-clause-entry_room
make_record-requires-clause-entry_room g c =
    let i = c.loop-i.i in
    let k = g.C.CellInLock.keeping c.deref_mut-cell.result.now in
    let ks = map (λ it. g.C.CellInLock.keeping (mutex_guard_value it)) c.loop-i.cells in
    let again = lent_here (λ it. g.C.CellInLock.keeping (mutex_guard_value it)) c.loop-i.cells c.loop-i.i (get_or c.loop-i.cells c.loop-i.i c.index-cells-i.result) k (ap g.C.CellInLock.keeping c.deref_mut-cell.ensures.value) (ap (get_or c.loop-i.cells c.loop-i.i) c.index-cells-i.is) in
    let number = has_number ks i k c.loop-i.invariant.row (omega arith) again in
    let apart = differs c.loop-i.all i k.number c.recorded_lent.result number c.recorded_lent.ensures.recorded c.if-not-recorded_lent.true in
    (may_turn g.D.Disk (parts_of c.args.store.now c.args.all.now c.args.notes.now) c.requires.steady c.requires.fits i (parts_of c.loop-i.store c.loop-i.all c.loop-i.notes) c.loop-i.invariant.behind (omega arith) apart).1

pub make_record-requires-clause-mark_room : goal.make_record-requires-clause-mark_room
make_record-requires-clause-mark_room g c =
    let i = c.loop-i.i in
    let k = g.C.CellInLock.keeping c.deref_mut-cell.result.now in
    let ks = map (λ it. g.C.CellInLock.keeping (mutex_guard_value it)) c.loop-i.cells in
    let again = lent_here (λ it. g.C.CellInLock.keeping (mutex_guard_value it)) c.loop-i.cells c.loop-i.i (get_or c.loop-i.cells c.loop-i.i c.index-cells-i.result) k (ap g.C.CellInLock.keeping c.deref_mut-cell.ensures.value) (ap (get_or c.loop-i.cells c.loop-i.i) c.index-cells-i.is) in
    let number = has_number ks i k c.loop-i.invariant.row (omega arith) again in
    let apart = differs c.loop-i.all i k.number c.recorded_lent.result number c.recorded_lent.ensures.recorded c.if-not-recorded_lent.true in
    (may_turn g.D.Disk (parts_of c.args.store.now c.args.all.now c.args.notes.now) c.requires.steady c.requires.fits i (parts_of c.loop-i.store c.loop-i.all c.loop-i.notes) c.loop-i.invariant.behind (omega arith) apart).2

pub make_record-requires-clause-lawful : goal.make_record-requires-clause-lawful
make_record-requires-clause-lawful g c =
    let i = c.loop-i.i in
    let k = g.C.CellInLock.keeping c.deref_mut-cell.result.now in
    let ks = map (λ it. g.C.CellInLock.keeping (mutex_guard_value it)) c.loop-i.cells in
    let again = lent_here (λ it. g.C.CellInLock.keeping (mutex_guard_value it)) c.loop-i.cells c.loop-i.i (get_or c.loop-i.cells c.loop-i.i c.index-cells-i.result) k (ap g.C.CellInLock.keeping c.deref_mut-cell.ensures.value) (ap (get_or c.loop-i.cells c.loop-i.i) c.index-cells-i.is) in
    let t = c.recorded_lent.ensures in
    let here = fits_here (λ es. g.C.LentCell.fits es (parts_of c.loop-i.store c.loop-i.all c.loop-i.notes)) (map (λ it. g.C.CellInLock.keeping (mutex_guard_value it)) c.args.cells.now) ks i k c.loop-i.invariant.seats c.loop-i.invariant.row (omega arith) again c.loop-i.invariant.lawful in
    over c.loop-i.all c.recorded_lent.new.all k (g.C.CellInLock.keeping c.recorded_lent.new.cell) (sym t.all) (sym t.cell) (λ l z. g.C.LentCell.fits z.known (parts_of c.loop-i.store l c.loop-i.notes)) here

pub loop-i-preserved : goal.loop-i-preserved
loop-i-preserved g c =
    let d = g.D.Disk in
    let i = c.loop-i.i in
    let old = parts_of c.args.store.now c.args.all.now c.args.notes.now in
    let now = parts_of c.loop-i.store c.loop-i.all c.loop-i.notes in
    let k = g.C.CellInLock.keeping c.deref_mut-cell.result.now in
    let ks = map (λ it. g.C.CellInLock.keeping (mutex_guard_value it)) c.loop-i.cells in
    let again = lent_here (λ it. g.C.CellInLock.keeping (mutex_guard_value it)) c.loop-i.cells c.loop-i.i (get_or c.loop-i.cells c.loop-i.i c.index-cells-i.result) k (ap g.C.CellInLock.keeping c.deref_mut-cell.ensures.value) (ap (get_or c.loop-i.cells c.loop-i.i) c.index-cells-i.is) in
    let t = c.recorded_lent.ensures in
    let number = has_number ks i k c.loop-i.invariant.row (omega arith) again in
    elim c.if-not-recorded_lent.branch [
      | then-not-recorded_lent+in_default w ↦
          (let new = parts_of w.make_record.new.store w.make_record.new.all w.make_record.new.notes in
          let home = sym (same_parts c.if-not-recorded_lent.store w.make_record.new.store c.if-not-recorded_lent.all w.make_record.new.all c.if-not-recorded_lent.notes w.make_record.new.notes w.store-is w.all-is w.notes-is) in
          let apart = differs c.loop-i.all i k.number c.recorded_lent.result number t.recorded w.if-not-recorded_lent.true in
          let m = w.make_record.ensures in
          let came = subst (λ x. Records d x w.make_record.result now new) number
          (over c.recorded_lent.new.all c.loop-i.all (g.C.CellInLock.keeping c.recorded_lent.new.cell) k t.all t.cell
          (λ l z. Records d z.number w.make_record.result (parts_of c.loop-i.store l c.loop-i.notes) new)
          (record { recorded = m.recorded; no_blocks = m.no_blocks; fails = m.fails; run = m.run; counts = m.counts })) in
          let lent = ap (λ (z : Keeping). z.number) t.cell in
          let known = ap (λ (z : Keeping). z.known) t.cell in
          record {
            row = subst (λ gs. IsRow (map (λ it. g.C.CellInLock.keeping (mutex_guard_value it)) gs)) (sym w.cells-is) (row_back (λ it. g.C.CellInLock.keeping (mutex_guard_value it)) c.loop-i.cells i _ (g.C.CellInLock.keeping w.make_record.new.self) refl c.loop-i.invariant.row (m.cell.0 ∙ (lent ∙ number)));
            seats = subst (λ gs. AreSameSeats (map (λ it. g.C.CellInLock.keeping (mutex_guard_value it)) c.args.cells.now) (map (λ it. g.C.CellInLock.keeping (mutex_guard_value it)) gs)) (sym w.cells-is) (seats_back (λ it. g.C.CellInLock.keeping (mutex_guard_value it)) c.args.cells.now c.loop-i.cells i _ (g.C.CellInLock.keeping w.make_record.new.self) k refl again (m.cell.0 ∙ lent) (m.cell.1 ∙ known) c.loop-i.invariant.seats);
            lawful = subst (AllFit g.C.LentCell.fits (map (λ it. g.C.CellInLock.keeping (mutex_guard_value it)) c.args.cells.now)) home
                (λ j z is. m.lawful z.known (subst (λ l. g.C.LentCell.fits z.known (parts_of c.loop-i.store l c.loop-i.notes)) (sym t.all) (c.loop-i.invariant.lawful j z is)));
            behind = subst (IsBehind d old (c.loop-i.i + 1)) home
                (records_turn d old c.requires.steady c.requires.fits i now c.loop-i.invariant.behind (omega arith) apart w.make_record.result new came w.in_default.is);
          })
      | else-not-recorded_lent w ↦
          (let home = sym (same_parts c.if-not-recorded_lent.store c.loop-i.store c.if-not-recorded_lent.all c.loop-i.all c.if-not-recorded_lent.notes c.loop-i.notes w.store-is (w.all-is ∙ t.all) w.notes-is) in
          let is = agrees c.loop-i.all i k.number c.recorded_lent.result number t.recorded w.if-not-recorded_lent.false in
          let lent = ap (λ (z : Keeping). z.number) t.cell in
          let known = ap (λ (z : Keeping). z.known) t.cell in
          record {
            row = subst (λ gs. IsRow (map (λ it. g.C.CellInLock.keeping (mutex_guard_value it)) gs)) (sym w.cells-is) (row_back (λ it. g.C.CellInLock.keeping (mutex_guard_value it)) c.loop-i.cells i _ (g.C.CellInLock.keeping c.recorded_lent.new.cell) refl c.loop-i.invariant.row (lent ∙ number));
            seats = subst (λ gs. AreSameSeats (map (λ it. g.C.CellInLock.keeping (mutex_guard_value it)) c.args.cells.now) (map (λ it. g.C.CellInLock.keeping (mutex_guard_value it)) gs)) (sym w.cells-is) (seats_back (λ it. g.C.CellInLock.keeping (mutex_guard_value it)) c.args.cells.now c.loop-i.cells i _ (g.C.CellInLock.keeping c.recorded_lent.new.cell) k refl again lent known c.loop-i.invariant.seats);
            lawful = subst (AllFit g.C.LentCell.fits (map (λ it. g.C.CellInLock.keeping (mutex_guard_value it)) c.args.cells.now)) home c.loop-i.invariant.lawful;
            behind = subst (IsBehind d old (c.loop-i.i + 1)) home
                (passes_turn d old c.requires.steady c.requires.fits i now c.loop-i.invariant.behind (omega arith) is);
          })
    ]

pub returns-clause-records : goal.returns-clause-records
returns-clause-records g c =
    let d = g.D.Disk in
    let old = parts_of c.args.store.now c.args.all.now c.args.notes.now in
    let now = parts_of c.loop-i.store c.loop-i.all c.loop-i.notes in
    let done : c.loop-i.i ≡ 64 = (let f = c.loop-i-test.false in let e = c.loop-i.auto.i-end in omega (arith, f, e)) in
    ends d old c.requires.steady c.requires.fits now (subst (λ n. IsBehind d old n now) done c.loop-i.invariant.behind)

pub returns-in-Err-clause-seats : goal.returns-in-Err-clause-seats
returns-in-Err-clause-seats g c =
    let k = g.C.CellInLock.keeping c.deref_mut-cell.result.now in
    let ks = map (λ it. g.C.CellInLock.keeping (mutex_guard_value it)) c.loop-i.cells in
    let again = lent_here (λ it. g.C.CellInLock.keeping (mutex_guard_value it)) c.loop-i.cells c.loop-i.i (get_or c.loop-i.cells c.loop-i.i c.index-cells-i.result) k (ap g.C.CellInLock.keeping c.deref_mut-cell.ensures.value) (ap (get_or c.loop-i.cells c.loop-i.i) c.index-cells-i.is) in
    let t = c.recorded_lent.ensures in
    seats_back (λ it. g.C.CellInLock.keeping (mutex_guard_value it)) c.args.cells.now c.loop-i.cells c.loop-i.i _ (g.C.CellInLock.keeping c.make_record.new.self) k refl again
    (c.make_record.ensures.cell.0 ∙ ap (λ (z : Keeping). z.number) t.cell) (c.make_record.ensures.cell.1 ∙ ap (λ (z : Keeping). z.known) t.cell) c.loop-i.invariant.seats

pub returns-in-Err-clause-records : goal.returns-in-Err-clause-records
returns-in-Err-clause-records g c =
    let d = g.D.Disk in
    let i = c.loop-i.i in
    let old = parts_of c.args.store.now c.args.all.now c.args.notes.now in
    let now = parts_of c.loop-i.store c.loop-i.all c.loop-i.notes in
    let new = parts_of c.make_record.new.store c.make_record.new.all c.make_record.new.notes in
    let k = g.C.CellInLock.keeping c.deref_mut-cell.result.now in
    let ks = map (λ it. g.C.CellInLock.keeping (mutex_guard_value it)) c.loop-i.cells in
    let again = lent_here (λ it. g.C.CellInLock.keeping (mutex_guard_value it)) c.loop-i.cells c.loop-i.i (get_or c.loop-i.cells c.loop-i.i c.index-cells-i.result) k (ap g.C.CellInLock.keeping c.deref_mut-cell.ensures.value) (ap (get_or c.loop-i.cells c.loop-i.i) c.index-cells-i.is) in
    let t = c.recorded_lent.ensures in
    let m = c.make_record.ensures in
    let number = has_number ks i k c.loop-i.invariant.row (omega arith) again in
    let apart = differs c.loop-i.all i k.number c.recorded_lent.result number t.recorded c.if-not-recorded_lent.true in
    let came = subst (λ x. Records d x c.make_record.result now new) number
    (over c.recorded_lent.new.all c.loop-i.all (g.C.CellInLock.keeping c.recorded_lent.new.cell) k t.all t.cell
    (λ l z. Records d z.number c.make_record.result (parts_of c.loop-i.store l c.loop-i.notes) new)
    (record { recorded = m.recorded; no_blocks = m.no_blocks; fails = m.fails; run = m.run; counts = m.counts })) in
    fails_turn d old c.requires.steady c.requires.fits i now c.loop-i.invariant.behind (omega arith) apart c.make_record.result new came c.in-Err.why c.in-Err.is
