use Rattle.std.proofs.Common.{◌≡◌, inl, inr, subst}
use Rattle.edge_disk.specs.Image.{Image, SameOutside}
use Rattle.edge_disk.proofs.Phases.{LeavesOnly-quiet, LeavesOnly-start, LeavesOnly-sync, told}
use Rattle.edge_tally.proofs.Counting.{CountsOn-then}
use Rattle.log_facts.specs.Bodies.{IsOpening}
use Rattle.log_append.proofs.slots.open_slot.Goals as goal

pub returns-in_err-sync-clause-any_moment : goal.returns-in_err-sync-clause-any_moment
returns-in_err-sync-clause-any_moment g c t =
    let disk = g.met.D.Disk in
    let laws = told g.D.Disk t disk.counts_now disk.only_now in
    let opening = IsOpening g.D.Disk c.args.at c.args.disk.now in
    LeavesOnly-sync laws (LeavesOnly-start laws c.args.disk.now opening (λ i could. inl could)) (c.sync.ensures.stop t) (c.sync.ensures.time t)

pub returns-in_err-write_and_sync-clause-any_moment : goal.returns-in_err-write_and_sync-clause-any_moment
returns-in_err-write_and_sync-clause-any_moment g c t =
    let disk = g.met.D.Disk in
    let laws = told g.D.Disk t disk.counts_now disk.only_now in
    let opening = IsOpening g.D.Disk c.args.at c.args.disk.now in
    let first = LeavesOnly-sync laws (LeavesOnly-start laws c.args.disk.now opening (λ i could. inl could)) (c.sync.ensures.stop t) (c.sync.ensures.time t) in
    LeavesOnly-quiet laws first (c.write_and_sync.ensures.any_moment t) (λ d i could same. inr (subst (λ (e : Image). SameOutside (λ n. n ≡ c.args.at) e i) (c.in_ok-sync.ensures.stable t d could) same))

pub returns-clause-any_moment : goal.returns-clause-any_moment
returns-clause-any_moment g c t =
    let disk = g.met.D.Disk in
    let laws = told g.D.Disk t disk.counts_now disk.only_now in
    let opening = IsOpening g.D.Disk c.args.at c.args.disk.now in
    let first = LeavesOnly-sync laws (LeavesOnly-start laws c.args.disk.now opening (λ i could. inl could)) (c.sync.ensures.stop t) (c.sync.ensures.time t) in
    LeavesOnly-quiet laws first (c.write_and_sync.ensures.any_moment t) (λ d i could same. inr (subst (λ (e : Image). SameOutside (λ n. n ≡ c.args.at) e i) (c.in_ok-sync.ensures.stable t d could) same))

pub returns-in_err-write_and_sync-clause-counts : goal.returns-in_err-write_and_sync-clause-counts
returns-in_err-write_and_sync-clause-counts g c = CountsOn-then _ _ _ _ _ _ c.sync.ensures.counts c.write_and_sync.ensures.counts

pub returns-clause-counts : goal.returns-clause-counts
returns-clause-counts g c = CountsOn-then _ _ _ _ _ _ c.sync.ensures.counts c.write_and_sync.ensures.counts
