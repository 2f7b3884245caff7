use Rattle.std.proofs.Common.{◌≡◌, ◌⊎◌, inl, inr, ⊎_elim, sym, subst}
use Rattle.std.specs.Prelude.{IfOk}
use Rattle.edge_tally.proofs.Counting.{Begins-stay}
use Rattle.edge_tally.specs.Counts.{Begins, shown}
use Rattle.edge_disk.specs.Disk.{Only}
use Rattle.edge_disk.specs.Image.{Image}
use Rattle.edge_disk.specs.Moments.{LeavesOnly}
use Rattle.edge_disk.proofs.Phases.{LeavesOnly-now, LeavesOnly-weaker, told}
use Rattle.open_facts.specs.image_chosen_facts.Parts.{IsAcceptedWith}
use Rattle.open_facts.specs.image_fits.Chosen.{parts_of}
use Rattle.open_facts.specs.store_facts.State.{books}
use Rattle.open_facts.specs.store_snapshots.declared.opening.OpenWhy.TheVariants as why
use Rattle.open_facts.specs.Images.{HasBegun, HasImageCause, HasKeepCause, HasTurnLeft, HoldsImage, MeansSame, MeansSince, StopsShort, WasRefused}
use Rattle.open_facts.proofs.Clauses.{begins_behind, both, foreign_not_failed, keep_cause, keep_not_foreign, match_weaker, open_not_foreign, settled, since_sync}
use Rattle.open_image.proofs.keeping.keep_image.Goals as goal
use Rattle.open_facts.proofs.store_facts_lemmas.Holding.{err_weaker}

pub kept-requires-clause-accepted : goal.kept-requires-clause-accepted
kept-requires-clause-accepted g c t =
    subst (λ (i : Image). IsAcceptedWith i c.in-Ok.read.synced.log.recs.items (parts_of c.in-Ok.read.parts.entities.items)) (sym (c.in-Ok.ensures.syncs.same_reading t)) (c.in-Ok.ensures.accepted t)

pub returns-in-Ok-clause-holds : goal.returns-in-Ok-clause-holds
returns-in-Ok-clause-holds g c t =
    subst (λ (i : Image). IfOk c.kept.result (λ o. HoldsImage g.D.Disk i o.0 o.1)) (c.in-Ok.ensures.syncs.same_reading t) (c.kept.ensures.holds t)

pub returns-in-Ok-clause-cause : goal.returns-in-Ok-clause-cause
returns-in-Ok-clause-cause g c =
    err_weaker c.kept.result
    (λ fault. HasKeepCause (g.D.Disk.faults c.in-Ok.read.synced.disk) (g.D.Disk.faults fault.disk) fault.why)
    (λ fault. HasImageCause g.D.Disk.tells (g.D.Disk.reading c.args.disk) (g.D.Disk.faults c.args.disk) (g.D.Disk.faults fault.disk) fault.why)
    (λ fault. keep_cause g.D.Disk.tells (g.D.Disk.reading c.args.disk) (g.D.Disk.faults c.args.disk) (g.D.Disk.faults c.in-Ok.read.synced.disk) (g.D.Disk.faults fault.disk) fault.why c.in-Ok.ensures.syncs.later)
    c.kept.ensures.cause

pub returns-in-Ok-clause-not_foreign : goal.returns-in-Ok-clause-not_foreign
returns-in-Ok-clause-not_foreign g c t accepted =
    err_weaker c.kept.result
    (λ fault. HasKeepCause (g.D.Disk.faults c.in-Ok.read.synced.disk) (g.D.Disk.faults fault.disk) fault.why)
    (λ fault. (bad : _) → fault.why ≡ why.Foreign bad → ⊥)
    (λ fault cause bad. keep_not_foreign (g.D.Disk.faults c.in-Ok.read.synced.disk) (g.D.Disk.faults fault.disk) fault.why bad cause)
    c.kept.ensures.cause

pub returns-in-Err-clause-not_foreign : goal.returns-in-Err-clause-not_foreign
returns-in-Err-clause-not_foreign g c t accepted bad =
    open_not_foreign g.D.Disk.tells (g.D.Disk.reading c.args.disk) (g.D.Disk.faults c.args.disk) (g.D.Disk.faults c.in-Err.fault.disk) c.in-Err.fault.why bad t accepted c.in-Err.ensures.cause

pub returns-in-Ok-clause-since : goal.returns-in-Ok-clause-since
returns-in-Ok-clause-since g c t room =
    let disk = g.met.D.Disk in
    let old = c.args.disk in
    let mid = c.in-Ok.read.synced.disk in
    let same = c.in-Ok.ensures.syncs.same_reading t in
    let ticks = c.in-Ok.ensures.syncs.one in
    match_weaker c.kept.result
    (λ o. LeavesOnly g.D.Disk mid o.0.disk (MeansSame (g.D.Disk.reading mid)))
    (λ o. MeansSince g.D.Disk old o.0.disk)
    (λ fault. LeavesOnly g.D.Disk mid fault.disk (MeansSame (g.D.Disk.reading mid)))
    (λ fault. StopsShort g.D.Disk fault.why old fault.disk ⊎ MeansSince g.D.Disk old fault.disk)
    (λ o. since_sync (told g.D.Disk t disk.counts_now disk.only_now) (λ d s u image le left. disk.counts_later d s u image t le left) old mid o.0.disk same ticks)
    (λ fault leaves. inr (since_sync (told g.D.Disk t disk.counts_now disk.only_now) (λ d s u image le left. disk.counts_later d s u image t le left) old mid fault.disk same ticks leaves))
    (c.kept.ensures.moments t (subst HasTurnLeft (sym same) room))

pub returns-in-Err-clause-since : goal.returns-in-Err-clause-since
returns-in-Err-clause-since g c t room =
    let disk = g.met.D.Disk in
    let laws = told g.D.Disk t disk.counts_now disk.only_now in
    let old = c.args.disk in
    let new = c.in-Err.fault.disk in
    let syncs = c.in-Err.ensures.syncs in
    ⊎_elim
    (λ (failed : c.in-Err.fault.why ≡ why.WriteFault). inl (record { fault = failed; one = syncs.one; no_more = λ image may. LeavesOnly-now laws (syncs.moments t) image may }))
    (λ (stable : Only (g.D.Disk.reading new) (g.D.Disk.may_leave new)).
    inr (since_sync laws (λ d s u image le left. disk.counts_later d s u image t le left) old new new (syncs.same_reading t) syncs.one
    (settled laws (λ d s u image le left. disk.counts_later d s u image t le left) new stable)))
    (c.in-Err.ensures.stable t)

pub returns-in-Ok-clause-any_moment : goal.returns-in-Ok-clause-any_moment
returns-in-Ok-clause-any_moment g c t room =
    let disk = g.met.D.Disk in
    let laws = told g.D.Disk t disk.counts_now disk.only_now in
    let old = c.args.disk in
    let mid = c.in-Ok.read.synced.disk in
    let syncs = c.in-Ok.ensures.syncs in
    let same = syncs.same_reading t in
    match_weaker c.kept.result
    (λ o. LeavesOnly g.D.Disk mid o.0.disk (MeansSame (g.D.Disk.reading mid)))
    (λ o. LeavesOnly g.D.Disk old o.0.disk (λ i. g.D.Disk.may_leave old i ⊎ MeansSame (g.D.Disk.reading old) i))
    (λ fault. LeavesOnly g.D.Disk mid fault.disk (MeansSame (g.D.Disk.reading mid)))
    (λ fault. LeavesOnly g.D.Disk old fault.disk (λ i. g.D.Disk.may_leave old i ⊎ MeansSame (g.D.Disk.reading old) i))
    (λ o leaves. both laws (λ d s u image le left. disk.counts_later d s u image t le left) (g.D.Disk.may_leave old) (MeansSame (g.D.Disk.reading old)) old mid o.0.disk (syncs.moments t)
    (subst (λ (i : Image). LeavesOnly g.D.Disk mid o.0.disk (MeansSame i)) same leaves))
    (λ fault leaves. both laws (λ d s u image le left. disk.counts_later d s u image t le left) (g.D.Disk.may_leave old) (MeansSame (g.D.Disk.reading old)) old mid fault.disk (syncs.moments t)
    (subst (λ (i : Image). LeavesOnly g.D.Disk mid fault.disk (MeansSame i)) same leaves))
    (c.kept.ensures.moments t (subst HasTurnLeft (sym same) room))

pub returns-in-Err-clause-any_moment : goal.returns-in-Err-clause-any_moment
returns-in-Err-clause-any_moment g c t room =
    let disk = g.met.D.Disk in
    let old = c.args.disk in
    LeavesOnly-weaker (told g.D.Disk t disk.counts_now disk.only_now) (λ i. g.D.Disk.may_leave old i ⊎ MeansSame (g.D.Disk.reading old) i) (λ i could. inl could) (c.in-Err.ensures.syncs.moments t)

pub returns-in-Ok-clause-begins : goal.returns-in-Ok-clause-begins
returns-in-Ok-clause-begins g c =
    let old = c.args.disk in
    let mid = c.in-Ok.read.synced.disk in
    let behind = begins_behind g.D.Disk old mid in
    match_weaker c.kept.result
    (λ o. Begins 137 (shown g.D.Disk mid 1) (shown g.D.Disk o.0.disk (books o.0).begun))
    (λ o. Begins 138 (shown g.D.Disk old 0) (shown g.D.Disk o.0.disk (books o.0).begun))
    (λ fault. HasBegun g.D.Disk 137 1 mid fault.disk)
    (λ fault. HasBegun g.D.Disk 138 0 old fault.disk)
    (λ o. behind o.0.disk (books o.0).begun c.in-Ok.ensures.syncs)
    (λ fault has. (has.0, behind fault.disk has.0 c.in-Ok.ensures.syncs has.1))
    c.kept.ensures.begins

pub returns-in-Err-clause-begins : goal.returns-in-Err-clause-begins
returns-in-Err-clause-begins g c =
    let new = c.in-Err.fault.disk in (
      1,
      begins_behind g.D.Disk c.args.disk new new 1 c.in-Err.ensures.syncs
          (Begins-stay 137 (shown g.D.Disk new 1)),
    )

pub returns-in-Ok-clause-refused : goal.returns-in-Ok-clause-refused
returns-in-Ok-clause-refused g c =
    err_weaker c.kept.result
    (λ fault. HasKeepCause (g.D.Disk.faults c.in-Ok.read.synced.disk) (g.D.Disk.faults fault.disk) fault.why)
    (λ fault. (bad : _) → fault.why ≡ why.Foreign bad
    → WasRefused g.D.Disk c.args.disk fault.disk)
    (λ fault cause bad is. absurd (keep_not_foreign (g.D.Disk.faults c.in-Ok.read.synced.disk) (g.D.Disk.faults fault.disk) fault.why bad cause is))
    c.kept.ensures.cause

pub returns-in-Err-clause-refused : goal.returns-in-Err-clause-refused
returns-in-Err-clause-refused g c bad is = record {
  synced = c.in-Err.ensures.syncs;
  stable = λ t. ⊎_elim
      (λ (failed : c.in-Err.fault.why ≡ why.WriteFault). absurd (foreign_not_failed c.in-Err.fault.why bad is failed))
      (λ (stable : Only (g.D.Disk.reading c.in-Err.fault.disk) (g.D.Disk.may_leave c.in-Err.fault.disk)). stable)
      (c.in-Err.ensures.stable t);
}
