use Rattle.std.proofs.Common.{map, sym, subst, refl}
use Rattle.std.specs.Sync.Mutex.{mutex_guard_value}
use Rattle.thread_commits.specs.kernel_commit_facts.kernel_invariant.declared.stopping.Stopped.TheVariants as reason
use Rattle.thread_commits.specs.kernel_commit_facts.Parts.{parts_of}
use Rattle.thread_commits.specs.kernel_commit_facts.Stabilising.{NeedsFit}
use Rattle.thread_settling.specs.Rows.{AllFit}
use Rattle.thread_settling.specs.Settling.{RecordsChanged}
use Rattle.thread_settling.proofs.Turns.{falls_short, stop_of}
use Rattle.thread_settling.proofs.settling.record_changed.Goals as goal

pub returns-in-Some-clause-records : goal.returns-in-Some-clause-records
returns-in-Some-clause-records g c =
    let d = g.D.Disk in
    let old = parts_of c.args.store.now c.args.all.now c.args.notes.now in
    subst (λ l. RecordsChanged d (stop_of (reason.NoBlocks c.in-Some.blocks)) old (parts_of c.args.store.now l c.args.notes.now)) (sym c.shortage.ensures.all)
    (falls_short d g.met.D.Disk.counts_later g.met.D.Disk.only_now old c.in-Some.blocks c.requires.steady ((c.shortage.ensures.some c.args.notes.now c.in-Some.blocks).0 c.in-Some.is))

pub record_all-requires-clause-fits : goal.record_all-requires-clause-fits
record_all-requires-clause-fits g c =
    subst (λ l. NeedsFit (parts_of c.args.store.now l c.args.notes.now)) (sym c.shortage.ensures.all) (c.in_default.ensures.none refl c.args.notes.now)

pub record_all-requires-clause-lawful : goal.record_all-requires-clause-lawful
record_all-requires-clause-lawful g c =
    subst (λ ks. AllFit g.C.LentCell.fits ks (parts_of c.args.store.now c.shortage.new.all c.args.notes.now)) (sym c.shortage.ensures.cells)
    (subst (λ l. AllFit g.C.LentCell.fits (map (λ it. g.C.CellInLock.keeping (mutex_guard_value it)) c.args.cells.now) (parts_of c.args.store.now l c.args.notes.now)) (sym c.shortage.ensures.all) c.requires.lawful)

pub returns-clause-records : goal.returns-clause-records
returns-clause-records g c =
    subst (λ l. RecordsChanged g.D.Disk c.record_all.result (parts_of c.args.store.now l c.args.notes.now) (parts_of c.record_all.new.store c.record_all.new.all c.record_all.new.notes)) c.shortage.ensures.all c.record_all.ensures.records
