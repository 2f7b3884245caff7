use Rattle.std.specs.Prelude.{⊤}
use Rattle.std.proofs.Common.{◌+◌, Bool, false, drop, refl, sym, ap, subst, arith}
use Rattle.kernel_commit_facts.specs.table_laws.Tables.{AreClean}
use Rattle.kernel_commit_facts.specs.kernel_record_facts.Cells.{words_on}
use Rattle.kernel_commit_facts.specs.model_serial.Serial.{written_in}
use Rattle.kernel_commit_facts.specs.Parts.{Parts}
use Rattle.kernel_commit_facts.specs.Short.{AreSnapsShort, IsSnapShort}
use Rattle.kernel_commit_facts.specs.Steady.{IsSteady}
use Rattle.kernel_commits.specs.Telling.{AddsNoTried}
use Rattle.kernel_commit_facts.specs.kernel_invariant.declared.stopping.Stopped.TheVariants as reason
use Rattle.kernel_commits.proofs.Along.{SnapsAlong, begins_along, ends_along, lacks_along, next_touch, none_left, place_low, skip, stops_along, take_one, written_at}
use Rattle.kernel_commit_facts.proofs.Counting.{CountsAlong, counts_begin, counts_end, counts_next, counts_skip, past_cells}
use Rattle.kernel_commits.proofs.snapping.snap_touched.Goals.{then-touch+in_default, else-touch}
use Rattle.kernel_commits.proofs.Stops.{stop_left}
use Rattle.kernel_commits.proofs.Telling.{adds_none, adds_then, notes_again}
use Rattle.kernel_commits.proofs.Wishing.{err_over}
use Rattle.kernel_commits.proofs.snapping.snap_touched.Goals as goal

pub loop-i-init : goal.loop-i-init
loop-i-init g c = record {
  steady = c.requires.steady;
  notes = adds_none c.args.core.now.noted.entries c.args.core.now.noted.entries refl;
  counts = counts_begin g.D.Disk c.args.core.now.store;
  clean = λ told s clean. clean;
  run = λ told b free. begins_along g.D.Disk b (g.P.Policy.wish c.args.gate.now.policy) c.args.touches.now c.args.core.now free;
}

pub loop-i-preserved : goal.loop-i-preserved
loop-i-preserved g c =
    let next = next_touch c.args.touches.now c.loop-i.i c.index-touches-i.result (omega arith) c.index-touches-i.is in
    elim c.if-touch.branch [
      | then-touch+in_default w ↦ record {
        steady = subst (IsSteady g.D.Disk) (sym w.core-is) w.in_default.ensures.steady;
        notes = subst (λ (p : Parts g.row.D.Denot). AddsNoTried c.args.core.now.noted.entries p.noted.entries) (sym w.core-is)
            (adds_then c.args.core.now.noted.entries c.loop-i.core.noted.entries w.snap_one.new.core.noted.entries c.loop-i.invariant.notes w.in_default.ensures.notes);
        counts = subst (λ (p : Parts g.row.D.Denot). CountsAlong g.D.Disk (c.loop-i.i + 1) c.args.core.now.store p.store) (sym w.core-is)
            (counts_next g.D.Disk c.loop-i.i c.index-touches-i.result.entity c.args.core.now.store c.loop-i.core.store w.snap_one.new.core.store
            (place_low c.args.touches.now c.requires.rising c.loop-i.i c.index-touches-i.result (omega arith) c.index-touches-i.is) c.loop-i.invariant.counts w.snap_one.ensures.counts
            (λ past. ap (λ (p : Parts g.row.D.Denot). p.store) (w.snap_one.ensures.none (past_cells (g.P.Policy.wish c.args.gate.now.policy) c.index-touches-i.result.entity c.loop-i.core false c.loop-i.invariant.steady.sound.matches.orderly.numbers past)).1));
        clean = λ told s clean. subst (λ (p : Parts g.row.D.Denot). AreClean s (words_on (g.D.Disk.reading p.store.disk)) p.cells) (sym w.core-is)
            (w.in_default.ensures.clean told s (c.loop-i.invariant.clean told s clean));
        run = λ told b free.
            let along = subst (λ rest. SnapsAlong g.D.Disk b (g.P.Policy.wish c.args.gate.now.policy) c.args.touches.now rest c.args.core.now c.loop-i.core) next (c.loop-i.invariant.run told b free) in
            subst (SnapsAlong g.D.Disk b (g.P.Policy.wish c.args.gate.now.policy) c.args.touches.now (drop (c.loop-i.i + 1) c.args.touches.now) c.args.core.now) (sym w.core-is)
            (take_one g.D.Disk b (g.P.Policy.wish c.args.gate.now.policy) c.args.touches.now (drop (c.loop-i.i + 1) c.args.touches.now) c.index-touches-i.result c.args.core.now c.loop-i.core along w.if-touch.true w.in_default.field-0 w.snap_one.new.core
            (w.in_default.ensures.run told b along.runs));
      }
      | else-touch w ↦ record {
        steady = subst (IsSteady g.D.Disk) (sym w.core-is) c.loop-i.invariant.steady;
        notes = subst (λ (p : Parts g.row.D.Denot). AddsNoTried c.args.core.now.noted.entries p.noted.entries) (sym w.core-is) c.loop-i.invariant.notes;
        counts = subst (λ (p : Parts g.row.D.Denot). CountsAlong g.D.Disk (c.loop-i.i + 1) c.args.core.now.store p.store) (sym w.core-is)
            (counts_skip g.D.Disk c.loop-i.i c.args.core.now.store c.loop-i.core.store c.loop-i.invariant.counts);
        clean = λ told s clean. subst (λ (p : Parts g.row.D.Denot). AreClean s (words_on (g.D.Disk.reading p.store.disk)) p.cells) (sym w.core-is) (c.loop-i.invariant.clean told s clean);
        run = λ told b free. subst (SnapsAlong g.D.Disk b (g.P.Policy.wish c.args.gate.now.policy) c.args.touches.now (drop (c.loop-i.i + 1) c.args.touches.now) c.args.core.now) (sym w.core-is)
            (skip g.D.Disk b (g.P.Policy.wish c.args.gate.now.policy) c.args.touches.now (drop (c.loop-i.i + 1) c.args.touches.now) c.index-touches-i.result c.args.core.now c.loop-i.core
            (subst (λ rest. SnapsAlong g.D.Disk b (g.P.Policy.wish c.args.gate.now.policy) c.args.touches.now rest c.args.core.now c.loop-i.core) next (c.loop-i.invariant.run told b free)) w.if-touch.false);
      }
    ]

pub returns-clause-run : goal.returns-clause-run
returns-clause-run g c = λ told b free.
    ends_along g.D.Disk b (g.P.Policy.wish c.args.gate.now.policy) c.args.touches.now c.args.core.now c.loop-i.core
    (subst (λ rest. SnapsAlong g.D.Disk b (g.P.Policy.wish c.args.gate.now.policy) c.args.touches.now rest c.args.core.now c.loop-i.core) (none_left c.args.touches.now c.loop-i.i (let done = c.loop-i-test.false in omega (arith, done))) (c.loop-i.invariant.run told b free))

pub returns-clause-counts : goal.returns-clause-counts
returns-clause-counts g c = counts_end g.D.Disk c.loop-i.i c.args.core.now.store c.loop-i.core.store c.loop-i.invariant.counts

pub returns-in-Err-clause-part : goal.returns-in-Err-clause-part
returns-in-Err-clause-part g c = λ told b free.
    let next = next_touch c.args.touches.now c.loop-i.i c.index-touches-i.result (omega arith) c.index-touches-i.is in
    let along = subst (λ rest. SnapsAlong g.D.Disk b (g.P.Policy.wish c.args.gate.now.policy) c.args.touches.now rest c.args.core.now c.loop-i.core) next (c.loop-i.invariant.run told b free) in
    stops_along g.D.Disk b (g.P.Policy.wish c.args.gate.now.policy) c.args.touches.now (drop (c.loop-i.i + 1) c.args.touches.now) c.index-touches-i.result c.args.core.now c.loop-i.core along c.if-touch.true
    c.snap_one.new.core (c.in-Err.ensures.part told b along.runs)

pub returns-in-Err-clause-stopped : goal.returns-in-Err-clause-stopped
returns-in-Err-clause-stopped g c =
    let d = g.D.Disk in
    let s = c.snap_one.ensures in
    let k = c.loop-i.invariant.steady in
    stop_left d c.index-touches-i.result.entity c.loop-i.core c.snap_one.new.core k.sound.matches.orderly c.args.core.now k.few.marks c.loop-i.invariant.counts.within.later s.counts.later
    c.snap_one.result s.fails (λ n is. ((s.no_blocks n).0 is).1)
    (AreSnapsShort d (g.P.Policy.wish c.args.gate.now.policy) (written_in c.args.touches.now) c.snap_one.new.core)
    (λ n is. record {
      entity = c.index-touches-i.result.entity;
      among = written_at c.args.touches.now c.loop-i.i c.index-touches-i.result (omega arith) c.index-touches-i.is c.if-touch.true;
      short = subst (λ (p : Parts g.row.D.Denot). IsSnapShort d (g.P.Policy.wish c.args.gate.now.policy) c.index-touches-i.result.entity p n) (sym (s.fails.untouched n is)) ((s.no_blocks n).0 is);
    })
    c.in-Err.why c.in-Err.is

pub returns-in-Err-clause-counts : goal.returns-in-Err-clause-counts
returns-in-Err-clause-counts g c =
    counts_end g.D.Disk (c.loop-i.i + 1) c.args.core.now.store c.snap_one.new.core.store
    (counts_next g.D.Disk c.loop-i.i c.index-touches-i.result.entity c.args.core.now.store c.loop-i.core.store c.snap_one.new.core.store
    (place_low c.args.touches.now c.requires.rising c.loop-i.i c.index-touches-i.result (omega arith) c.index-touches-i.is) c.loop-i.invariant.counts c.snap_one.ensures.counts
    (λ past. ap (λ (p : Parts g.row.D.Denot). p.store) (c.snap_one.ensures.none (past_cells (g.P.Policy.wish c.args.gate.now.policy) c.index-touches-i.result.entity c.loop-i.core false c.loop-i.invariant.steady.sound.matches.orderly.numbers past)).1))

pub returns-in-Err-clause-enough : goal.returns-in-Err-clause-enough
returns-in-Err-clause-enough g c = λ told b free n is.
    let next = next_touch c.args.touches.now c.loop-i.i c.index-touches-i.result (omega arith) c.index-touches-i.is in
    let along = subst (λ rest. SnapsAlong g.D.Disk b (g.P.Policy.wish c.args.gate.now.policy) c.args.touches.now rest c.args.core.now c.loop-i.core) next (c.loop-i.invariant.run told b free) in
    lacks_along g.D.Disk b (g.P.Policy.wish c.args.gate.now.policy) c.args.touches.now (drop (c.loop-i.i + 1) c.args.touches.now) c.index-touches-i.result c.args.core.now c.loop-i.core along c.if-touch.true
    c.snap_one.new.core n (c.in-Err.ensures.enough told b along.runs n (err_over ⊤ Bool c.in-Err.why (reason.NoBlocks n) is))

pub returns-in-Err-clause-notes : goal.returns-in-Err-clause-notes
returns-in-Err-clause-notes g c =
    notes_again ⊤ Bool c.in-Err.why c.args.core.now.noted.entries c.loop-i.core.noted.entries c.snap_one.new.core.noted.entries c.loop-i.invariant.notes c.in-Err.ensures.notes
