use Rattle.std.proofs.Common.{◌*◌, [], ◌∷◌, OnOk, OnErr, Some, sym, ap, subst}
use Rattle.base_types.specs.declared.histories.Event.TheVariants.{Stable}
use Rattle.kernel_commit_facts.specs.model_kernel.Histories.{mark}
use Rattle.kernel_commit_facts.specs.kernel_invariant.declared.stopping.Stopped.TheVariants as reason
use Rattle.kernel_commit_facts.specs.Parts.{LivesAs, Parts}
use Rattle.kernel_commit_facts.specs.Pieces.{CountsWithin, StopsIn}
use Rattle.kernel_commit_facts.specs.Stabilising.{OwesStable}
use Rattle.kernel_commit_facts.specs.Through.{RunsThrough}
use Rattle.kernel_commits.proofs.Fitting.{short_stop, stops_short}
use Rattle.kernel_commit_facts.proofs.Running.{still_lives}
use Rattle.kernel_commit_facts.proofs.Counting.{CountsWithin-stay}
use Rattle.kernel_commits.proofs.Parting.{none_came}
use Rattle.kernel_commits.proofs.stabilising.record_changed.Goals as goal

pub returns-in-Some-clause-lives : goal.returns-in-Some-clause-lives
returns-in-Some-clause-lives g c = λ told b actor owes.
    let d = g.D.Disk in
    let why = reason.NoBlocks c.in-Some.blocks in
    subst (λ p. LivesAs d b p (Some why)) (sym c.shortage.ensures.same)
    (still_lives d g.met.D.Disk.counts_later g.met.D.Disk.only_now b c.args.core.now why owes.stands)

pub returns-in-Some-clause-no_blocks : goal.returns-in-Some-clause-no_blocks
returns-in-Some-clause-no_blocks g c =
    let d = g.D.Disk in
    stops_short d c.args.core.now c.shortage.result c.in-Some.blocks c.in-Some.is c.shortage.ensures.some

pub returns-in-Some-clause-stopped : goal.returns-in-Some-clause-stopped
returns-in-Some-clause-stopped g c =
    let d = g.D.Disk in
    short_stop d c.args.core.now c.shortage.new.core c.in-Some.blocks c.requires.steady c.shortage.ensures.same ((c.shortage.ensures.some c.in-Some.blocks).0 c.in-Some.is)

pub returns-clause-run : goal.returns-clause-run
returns-clause-run g c = λ told b actor owes.
    let d = g.D.Disk in
    subst (λ p. OnOk c.record_all.result (RunsThrough d b actor 64 p c.record_all.new.core)) c.shortage.ensures.same
    (c.record_all.ensures.run told b actor (subst (OwesStable d b actor) (sym c.shortage.ensures.same) owes))

pub returns-clause-lives : goal.returns-clause-lives
returns-clause-lives g c = λ told b actor owes.
    let d = g.D.Disk in
    c.record_all.ensures.lives told b actor (subst (OwesStable d b actor) (sym c.shortage.ensures.same) owes)

pub returns-in-Some-clause-part : goal.returns-in-Some-clause-part
returns-in-Some-clause-part g c = λ told b actor owes.
    none_came b (mark Stable actor 0 ∷ []) c.args.core.now.noted.entries c.shortage.new.core.noted.entries (ap (λ (p : Parts g.row.D.Denot). p.noted.entries) c.shortage.ensures.same)

pub returns-clause-part : goal.returns-clause-part
returns-clause-part g c = λ told b actor owes.
    let d = g.D.Disk in
    subst (λ (p : Parts g.row.D.Denot). OnErr c.record_all.result (StopsIn b (mark Stable actor 0 ∷ []) p.noted.entries c.record_all.new.core.noted.entries)) c.shortage.ensures.same
    (c.record_all.ensures.part told b actor (subst (OwesStable d b actor) (sym c.shortage.ensures.same) owes))

pub returns-in-Some-clause-counts : goal.returns-in-Some-clause-counts
returns-in-Some-clause-counts g c =
    subst (λ (p : Parts g.row.D.Denot). CountsWithin g.D.Disk (64 * 1556) c.args.core.now.store p.store) (sym c.shortage.ensures.same)
    (CountsWithin-stay g.D.Disk (64 * 1556) c.args.core.now.store)

pub returns-clause-counts : goal.returns-clause-counts
returns-clause-counts g c =
    subst (λ (p : Parts g.row.D.Denot). CountsWithin g.D.Disk (64 * 1556) p.store c.record_all.new.core.store) c.shortage.ensures.same c.record_all.ensures.counts
