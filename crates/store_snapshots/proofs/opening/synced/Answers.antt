use Rattle.std.proofs.Common.{◌≡◌, ◌⊎◌, inr, sym, subst, ◌∙◌}
use Rattle.edge_disk.specs.Disk.{Only}
use Rattle.edge_disk.specs.Image.{Image}
use Rattle.edge_disk.proofs.Phases.{told}
use Rattle.store_facts.specs.log_reading.Logs.{IsLogOf}
use Rattle.store_snapshots.specs.OpenFaults.{HasOpenCause, why}
use Rattle.store_snapshots.specs.declared.opening.OpenWhy.{OpenWhy}
use Rattle.store_snapshots.specs.declared.opening.OpenWhy.TheVariants.{WriteFault}
use Rattle.store_facts.proofs.Opened.{read_behind, synced}
use Rattle.store_snapshots.proofs.Opened.{read_cause, why_not}
use Rattle.store_snapshots.proofs.opening.synced.Goals as goal

pub returns-in_err-sync-clause-syncs : goal.returns-in_err-sync-clause-syncs
returns-in_err-sync-clause-syncs g c =
    let disk = g.met.D.Disk in
    synced g.D.Disk (λ t. told g.D.Disk t disk.counts_now disk.only_now) c.args.disk.now c.sync.new.disk c.sync.ensures.count c.sync.ensures.clock c.sync.ensures.cause.later c.sync.ensures.reading c.sync.ensures.stop c.sync.ensures.time

pub returns-in_err-log-clause-syncs : goal.returns-in_err-log-clause-syncs
returns-in_err-log-clause-syncs g c =
    let disk = g.met.D.Disk in
    read_behind g.D.Disk (λ t. told g.D.Disk t disk.counts_now disk.only_now) c.args.disk.now c.sync.new.disk c.read_log.new.disk
    (synced g.D.Disk (λ t. told g.D.Disk t disk.counts_now disk.only_now) c.args.disk.now c.sync.new.disk c.sync.ensures.count c.sync.ensures.clock c.sync.ensures.cause.later c.sync.ensures.reading c.sync.ensures.stop c.sync.ensures.time)
    c.read_log.ensures.same

pub returns-clause-syncs : goal.returns-clause-syncs
returns-clause-syncs g c =
    let disk = g.met.D.Disk in
    read_behind g.D.Disk (λ t. told g.D.Disk t disk.counts_now disk.only_now) c.args.disk.now c.sync.new.disk c.read_log.new.disk
    (synced g.D.Disk (λ t. told g.D.Disk t disk.counts_now disk.only_now) c.args.disk.now c.sync.new.disk c.sync.ensures.count c.sync.ensures.clock c.sync.ensures.cause.later c.sync.ensures.reading c.sync.ensures.stop c.sync.ensures.time)
    c.read_log.ensures.same

pub returns-in_err-log-clause-cause : goal.returns-in_err-log-clause-cause
returns-in_err-log-clause-cause g c =
    let fault = c.in_err-log.field-0.0 in
    why_not _ (HasOpenCause g.D.Disk.tells (g.D.Disk.reading c.args.disk.now) (g.D.Disk.faults c.args.disk.now) (g.D.Disk.faults c.read_log.new.disk)) (why fault) c.from_residual-in_err-log.ensures.1
    (read_cause g.D.Disk.tells (g.D.Disk.reading c.args.disk.now) (g.D.Disk.reading c.sync.new.disk) (g.D.Disk.faults c.args.disk.now) (g.D.Disk.faults c.sync.new.disk) (g.D.Disk.faults c.read_log.new.disk) fault
    c.sync.ensures.reading c.sync.ensures.cause.later c.read_log.ensures.same.later c.in_err-log.ensures.foreign c.in_err-log.ensures.cause)

pub returns-clause-log : goal.returns-clause-log
returns-clause-log g c t = subst (λ (i : Image). IsLogOf i c.in_ok-log.log) (sym (c.read_log.ensures.same.same_reading t)) (c.in_ok-log.ensures.log t)

pub returns-clause-stable : goal.returns-clause-stable
returns-clause-stable g c t = λ image may.
    c.in_ok-sync.ensures.stable t image (c.read_log.ensures.same.stop t image may)
    ∙ sym (c.read_log.ensures.same.same_reading t ∙ c.sync.ensures.reading t)

pub returns-in_err-log-clause-settled : goal.returns-in_err-log-clause-settled
returns-in_err-log-clause-settled g c t =
    let fault = c.in_err-log.field-0.0 in
    why_not _ (λ (w : OpenWhy). (w ≡ WriteFault) ⊎ Only (g.D.Disk.reading c.read_log.new.disk) (g.D.Disk.may_leave c.read_log.new.disk)) (why fault) c.from_residual-in_err-log.ensures.1
    (inr (λ image may.
    c.in_ok-sync.ensures.stable t image (c.read_log.ensures.same.stop t image may)
    ∙ sym (c.read_log.ensures.same.same_reading t ∙ c.sync.ensures.reading t)))
