use Rattle.std.proofs.Common.{◌≡◌, ◌≢◌, ◌<◌, ◌+◌, ◌*◌, suc, sym, ap, ◌∙◌, subst, arith}
use Rattle.kernel_commit_facts.specs.store_facts.State.{books}
use Rattle.kernel_commit_facts.specs.kernel_book_laws.Matching.{newest_of, version_of}
use Rattle.kernel_commit_facts.specs.Parts.{Parts}
use Rattle.kernel_commit_facts.specs.Recording.{CanRecord, HasRecorded, MayRecord}
use Rattle.kernel_commit_facts.specs.Pieces.{CountsWithin}
use Rattle.kernel_commit_facts.specs.Stabilising.{AreShort, NeedsFit}
use Rattle.kernel_commit_facts.specs.Through.{GoesThrough, RunsThrough}
use Rattle.kernel_commit_facts.proofs.Counting.{CountsWithin-fewer, one_within}
use Rattle.kernel_commits.specs.Recording.{Fails}
use Rattle.kernel_commits.proofs.Fitting.{only_writes}
use Rattle.kernel_commit_facts.proofs.Fitting.{not_short, still_fits}
use Rattle.kernel_commits.proofs.Parting.{stable_part}
use Rattle.kernel_commit_facts.proofs.Through.{begins_through, is_newest, marks_within, may_go_on, newest_low, not_newest, passes, records_next}
use Rattle.kernel_commit_facts.proofs.RunsThrough.{next_is, runs_begin, runs_may, runs_next, runs_pass, version_in_run}
use Rattle.kernel_commits.proofs.stabilising.record_all.Goals.{then-not-recorded_among+in_default, else-not-recorded_among}
use Rattle.kernel_commits.proofs.Stops.{stop_left}
use Rattle.kernel_commits.proofs.stabilising.record_all.Goals as goal

pub loop-x-init : goal.loop-x-init
loop-x-init g c = record {
  through = begins_through g.D.Disk c.args.core.now c.requires.steady;
  run = λ told b actor owes. runs_begin g.D.Disk b actor c.args.core.now owes;
  fits = c.requires.fits;
}

pub record_one-requires-clause-can : goal.record_one-requires-clause-can
record_one-requires-clause-can g c =
    subst (λ y. CanRecord g.D.Disk y c.loop-x.core.cells c.loop-x.core.store) (sym c.of-entity.ensures) (may_go_on g.D.Disk c.loop-x.x c.args.core.now c.loop-x.core c.loop-x.invariant.through (omega arith) c.requires.steady (not_newest c.loop-x.core.cells c.deref.result.now c.loop-x.x c.of-entity.result c.of-entity.ensures (c.deref.ensures.value ∙ ap (λ (p : Parts g.row.D.Denot). p.cells) c.core.view_is) c.recorded_among.result c.recorded_among.ensures c.if-not-recorded_among.true) (newest_low (books c.loop-x.core.store).held c.loop-x.core.cells c.loop-x.invariant.through.sound.matches.orderly c.loop-x.x)).0

pub returns-in-Err-clause-lives : goal.returns-in-Err-clause-lives
returns-in-Err-clause-lives g c = λ told b actor owes.
    let u = c.loop-x.invariant.run told b actor owes in
    let lt : newest_of c.loop-x.core.cells c.loop-x.x < version_of c.loop-x.core.cells c.loop-x.x = (may_go_on g.D.Disk c.loop-x.x c.args.core.now c.loop-x.core c.loop-x.invariant.through (omega arith) c.requires.steady (not_newest c.loop-x.core.cells c.deref.result.now c.loop-x.x c.of-entity.result c.of-entity.ensures (c.deref.ensures.value ∙ ap (λ (p : Parts g.row.D.Denot). p.cells) c.core.view_is) c.recorded_among.result c.recorded_among.ensures c.if-not-recorded_among.true) (newest_low (books c.loop-x.core.store).held c.loop-x.core.cells c.loop-x.invariant.through.sound.matches.orderly c.loop-x.x)).0.changed in
    (c.in-Err.ensures.run told b (subst (λ y. MayRecord g.D.Disk b y c.loop-x.core) (sym c.of-entity.ensures)
    (runs_may g.D.Disk b actor c.loop-x.x c.args.core.now c.loop-x.core owes.stands c.loop-x.invariant.through u (omega arith) lt))).lives

pub loop-x-preserved : goal.loop-x-preserved
loop-x-preserved g c =
    let more : suc c.loop-x.x ≡ c.loop-x.x + 1 = omega arith in
    elim c.if-not-recorded_among.branch [
      | then-not-recorded_among+in_default w ↦
          (let r : HasRecorded g.D.Disk c.loop-x.x c.loop-x.core w.record_one.new.core = subst (λ y. HasRecorded g.D.Disk y c.loop-x.core w.record_one.new.core) c.of-entity.ensures w.in_default.ensures.recorded in
          record {
            through = subst (λ n. GoesThrough g.D.Disk n c.args.core.now c.if-not-recorded_among.core) more
                (subst (GoesThrough g.D.Disk (suc c.loop-x.x) c.args.core.now) (sym w.core-is) (records_next g.D.Disk c.loop-x.x c.args.core.now c.loop-x.core c.loop-x.invariant.through w.record_one.new.core r w.record_one.ensures.counts));
            run = λ told b actor owes.
                let u = c.loop-x.invariant.run told b actor owes in
                let lt : newest_of c.loop-x.core.cells c.loop-x.x < version_of c.loop-x.core.cells c.loop-x.x = (may_go_on g.D.Disk c.loop-x.x c.args.core.now c.loop-x.core c.loop-x.invariant.through (omega arith) c.requires.steady (not_newest c.loop-x.core.cells c.deref.result.now c.loop-x.x c.of-entity.result c.of-entity.ensures (c.deref.ensures.value ∙ ap (λ (p : Parts g.row.D.Denot). p.cells) c.core.view_is) c.recorded_among.result c.recorded_among.ensures w.if-not-recorded_among.true) (newest_low (books c.loop-x.core.store).held c.loop-x.core.cells c.loop-x.invariant.through.sound.matches.orderly c.loop-x.x)).0.changed in
                let st = (w.in_default.ensures.run told b (subst (λ y. MayRecord g.D.Disk b y c.loop-x.core) (sym c.of-entity.ensures)
                (runs_may g.D.Disk b actor c.loop-x.x c.args.core.now c.loop-x.core owes.stands c.loop-x.invariant.through u (omega arith) lt))).stands in
                subst (λ n. RunsThrough g.D.Disk b actor n c.args.core.now c.if-not-recorded_among.core) more
                (subst (RunsThrough g.D.Disk b actor (suc c.loop-x.x) c.args.core.now) (sym w.core-is)
                (runs_next g.D.Disk b actor c.loop-x.x c.args.core.now c.loop-x.core owes.stands c.loop-x.invariant.through u w.record_one.new.core (omega arith) lt r st));
            fits = subst NeedsFit (sym w.core-is) (still_fits g.D.Disk c.loop-x.x c.loop-x.core w.record_one.new.core c.loop-x.invariant.through.sound.matches.orderly r
                (not_newest c.loop-x.core.cells c.deref.result.now c.loop-x.x c.of-entity.result c.of-entity.ensures (c.deref.ensures.value ∙ ap (λ (p : Parts g.row.D.Denot). p.cells) c.core.view_is) c.recorded_among.result c.recorded_among.ensures w.if-not-recorded_among.true) c.loop-x.invariant.fits);
          })
      | else-not-recorded_among w ↦
          (let is : newest_of c.loop-x.core.cells c.loop-x.x ≡ version_of c.loop-x.core.cells c.loop-x.x = is_newest c.loop-x.core.cells c.deref.result.now c.loop-x.x c.of-entity.result c.of-entity.ensures (c.deref.ensures.value ∙ ap (λ (p : Parts g.row.D.Denot). p.cells) c.core.view_is) c.recorded_among.result c.recorded_among.ensures w.if-not-recorded_among.false in
          record {
            through = subst (λ n. GoesThrough g.D.Disk n c.args.core.now c.if-not-recorded_among.core) more
                (subst (GoesThrough g.D.Disk (suc c.loop-x.x) c.args.core.now) (sym w.core-is) (passes g.D.Disk c.loop-x.x c.args.core.now c.loop-x.core c.loop-x.invariant.through is));
            run = λ told b actor owes.
                subst (λ n. RunsThrough g.D.Disk b actor n c.args.core.now c.if-not-recorded_among.core) more
                (subst (RunsThrough g.D.Disk b actor (suc c.loop-x.x) c.args.core.now) (sym w.core-is)
                (runs_pass g.D.Disk b actor c.loop-x.x c.args.core.now c.loop-x.core owes.stands c.loop-x.invariant.through (c.loop-x.invariant.run told b actor owes) is));
            fits = subst NeedsFit (sym w.core-is) c.loop-x.invariant.fits;
          })
    ]

pub returns-clause-run : goal.returns-clause-run
returns-clause-run g c = λ told b actor owes.
    let done : c.loop-x.x ≡ 64 = (let d = c.loop-x-test.false in let u = c.loop-x.auto.x-end in omega (arith, d, u)) in
    subst (λ n. RunsThrough g.D.Disk b actor n c.args.core.now c.loop-x.core) done (c.loop-x.invariant.run told b actor owes)

pub returns-in-Err-clause-stopped : goal.returns-in-Err-clause-stopped
returns-in-Err-clause-stopped g c =
    let d = g.D.Disk in
    let s = c.record_one.ensures in
    let t = c.loop-x.invariant.through in
    stop_left d c.of-entity.result c.loop-x.core c.record_one.new.core t.sound.matches.orderly c.args.core.now
    (marks_within d c.loop-x.x c.args.core.now c.loop-x.core t c.requires.steady.few.marks) t.counts.later s.counts.later
    c.record_one.result s.fails (λ n is. (s.no_blocks n).0 is) (AreShort c.record_one.new.core)
    (λ n is. absurd (not_short d c.of-entity.result c.loop-x.core n c.loop-x.invariant.fits ((s.no_blocks n).0 is))) c.in-Err.why c.in-Err.is

pub returns-in-Err-clause-part : goal.returns-in-Err-clause-part
returns-in-Err-clause-part g c = λ told b actor owes.
    let d = g.D.Disk in
    let s = c.record_one.ensures in
    let t = c.loop-x.invariant.through in
    let u = c.loop-x.invariant.run told b actor owes in
    let differs : newest_of c.loop-x.core.cells c.loop-x.x ≢ version_of c.loop-x.core.cells c.loop-x.x = not_newest c.loop-x.core.cells c.deref.result.now c.loop-x.x c.of-entity.result c.of-entity.ensures (c.deref.ensures.value ∙ ap (λ (p : Parts g.row.D.Denot). p.cells) c.core.view_is) c.recorded_among.result c.recorded_among.ensures c.if-not-recorded_among.true in
    let low = newest_low (books c.loop-x.core.store).held c.loop-x.core.cells t.sound.matches.orderly c.loop-x.x in
    let lt : newest_of c.loop-x.core.cells c.loop-x.x < version_of c.loop-x.core.cells c.loop-x.x = omega (arith, differs, low) in
    stable_part d b actor c.loop-x.x c.args.core.now c.loop-x.core c.record_one.new.core u.under
    (next_is d b actor c.loop-x.x c.args.core.now c.loop-x.core owes.stands t u (omega arith) lt)
    (version_in_run d b c.loop-x.core u.stands c.loop-x.x)
    c.record_one.result (subst (λ y. Fails d y c.record_one.result c.loop-x.core c.record_one.new.core) c.of-entity.ensures s.fails) c.in-Err.why c.in-Err.is

pub returns-in-Err-clause-counts : goal.returns-in-Err-clause-counts
returns-in-Err-clause-counts g c =
    let d = g.D.Disk in
    CountsWithin-fewer d (suc c.loop-x.x * 1556) (64 * 1556) c.args.core.now.store c.record_one.new.core.store (omega arith)
    (one_within d c.loop-x.x c.args.core.now.store c.loop-x.core.store c.record_one.new.core.store c.loop-x.invariant.through.counts c.record_one.ensures.counts)

pub returns-clause-counts : goal.returns-clause-counts
returns-clause-counts g c =
    let done : c.loop-x.x ≡ 64 = (let d = c.loop-x-test.false in let u = c.loop-x.auto.x-end in omega (arith, d, u)) in
    subst (λ n. CountsWithin g.D.Disk (n * 1556) c.args.core.now.store c.loop-x.core.store) done c.loop-x.invariant.through.counts

pub returns-in-Err-clause-only_writes : goal.returns-in-Err-clause-only_writes
returns-in-Err-clause-only_writes g c =
    let d = g.D.Disk in
    only_writes d c.of-entity.result c.loop-x.core c.record_one.result c.loop-x.invariant.fits (λ n is. (c.record_one.ensures.no_blocks n).0 is) c.record_one.ensures.fails.no_read c.in-Err.why c.in-Err.is
