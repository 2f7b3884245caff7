use Rattle.std.proofs.Common.{◌≡◌, ◌⊎◌, ℕ, sym, string_bytes, ap, subst, ◌∙◌}
use Rattle.edge_disk.specs.Counts.{Rose}
use Rattle.command_outcomes.specs.Seen.{gave, seen_disk, seen_sink}
use Rattle.command_outcomes.specs.Statuses.{IsComplete, ending, status_by}
use Rattle.command_outcomes.specs.declared.faults.Fault.{Fault}
use Rattle.command_outcomes.specs.Ends.{IsPut, IsUnrun}
use Rattle.command_outcomes.proofs.Endings.{fault_ends, put_complete, put_ends}
use Rattle.command_promises.proofs.Leavings.{goes_on}
use Rattle.container_copy.specs.Leaving.{CopiesSince, FindsBlocks, HasCopyCause, IsDiskWhy, IsOnlyOpened, MadeCopy, StopsShortCopy}
use Rattle.container_copy.specs.image_blocks.Checks.{Bad}
use Rattle.container_copy.specs.image_meaning.Meaning.{Accepted}
use Rattle.container_copy.specs.open_facts.Images.{HasTurnLeft, WasRefused}
use Rattle.container_copy.specs.declared.copying.CopyWhy.TheVariants as why
use Rattle.command_copy.specs.Copies.{CanCopy, CopyLeaves, HasCopied, StopsCopy, WhyNoCopy, copied_text, fault_of_copy}
use Rattle.command_copy.proofs.Left.{has_copied, moved, named, not_done, why_not}
use Rattle.command_copy.proofs.copying.copy_watched.Goals as goal

pub returns-in-Ok-clause-leaves : goal.returns-in-Ok-clause-leaves
returns-in-Ok-clause-leaves g c =
    let d = g.D.Disk in
    let name = c.as_str-name.result.now in
    let fresh = c.as_str-fresh.result.now in
    let old = c.args.disk in
    let watched = c.new-watched.result in
    let new = c.into_disk.result in
    let made = c.in-Ok.copied in
    let sink = seen_sink g.W.Sink.held g.W.Sink.faults c.args.sink.now c.put_copied-status.new.sink in
    let given = gave c.empty_outcome.result in
    let gone = goes_on d g.met.D.Disk.counts_now old g.N.Handed.start new c.requires.start c.into_disk.ensures.gone_on in
    named (λ n f. CopyLeaves n f (seen_disk d old c.empty_outcome.result.disk) sink given (ending given.status)) name (string_bytes c.args.name.now) fresh (string_bytes c.args.fresh.now) c.as_str-name.ensures.value c.as_str-fresh.ensures.value
    (subst (λ (disk : g.row.D.Denot). CopyLeaves name fresh (seen_disk d old disk) sink given (ending given.status)) (sym c.empty_outcome.ensures.disk)
    (put_ends sink (HasCopied name fresh (seen_disk d old new) given) (StopsCopy name fresh (seen_disk d old new) sink given) given.status
    (copied_text fresh made.number) (subst (IsPut sink (copied_text fresh made.number)) (sym c.empty_outcome.ensures.status) c.put_copied-status.ensures.put)
    (has_copied d name fresh old new gone given made.number c.empty_outcome.ensures.empty
    (λ told. moved (λ (o n : g.row.D.Denot). MadeCopy d (d.reading o) name fresh (record { number = made.number; disk = n })) watched old new made.disk c.new-watched.ensures c.into_disk.ensures.same (c.in-Ok.ensures.made told))
    (λ told. moved (λ (o n : g.row.D.Denot). FindsBlocks (d.reading o) name fresh) watched old new made.disk c.new-watched.ensures c.into_disk.ensures.same (c.in-Ok.ensures.room told))
    (λ told turn. moved (λ (o n : g.row.D.Denot). HasTurnLeft (d.reading o) → CopiesSince d name fresh o n) watched old new made.disk c.new-watched.ensures c.into_disk.ensures.same (c.in-Ok.ensures.since told) turn))))

pub returns-in-Err-clause-leaves : goal.returns-in-Err-clause-leaves
returns-in-Err-clause-leaves g c =
    let d = g.D.Disk in
    let name = c.as_str-name.result.now in
    let fresh = c.as_str-fresh.result.now in
    let old = c.args.disk in
    let watched = c.new-watched.result in
    let new = c.into_disk-in-Err.result in
    let w = c.in-Err.fault.why in
    let was = c.in-Err.fault.disk in
    let sink = seen_sink g.W.Sink.held g.W.Sink.faults c.args.sink.now c.end_with.new.sink in
    let given = gave c.end_with.result in
    let gone = goes_on d g.met.D.Disk.counts_now old g.N.Handed.start new c.requires.start c.into_disk-in-Err.ensures.gone_on in
    let at = c.new-watched.ensures in
    let back = c.into_disk-in-Err.ensures.same in
    let none : WhyNoCopy name fresh (seen_disk d old new) (fault_of_copy w) =
    why_not d name fresh old new gone g.met.D.Disk.counts_now g.met.D.Disk.only_now g.met.D.Disk.counts_later w
    (moved (λ (o n : g.row.D.Denot). HasCopyCause d name fresh o n w) watched old new was at back c.in-Err.ensures.cause)
    (moved (λ (o n : g.row.D.Denot). (bad : Bad) → w ≡ why.Foreign bad → WasRefused d o n) watched old new was at back c.in-Err.ensures.refused)
    (moved (λ (o n : g.row.D.Denot). IsDiskWhy w ⊎ IsOnlyOpened d o n) watched old new was at back c.in-Err.ensures.kept)
    (moved (λ (o n : g.row.D.Denot). d.tells → HasTurnLeft (d.reading o) → StopsShortCopy d w o n ⊎ CopiesSince d name fresh o n) watched old new was at back c.in-Err.ensures.since) in
    named (λ n f. CopyLeaves n f (seen_disk d old c.end_with.result.disk) sink given (ending given.status)) name (string_bytes c.args.name.now) fresh (string_bytes c.args.fresh.now) c.as_str-name.ensures.value c.as_str-fresh.ensures.value
    (subst (λ (disk : g.row.D.Denot). CopyLeaves name fresh (seen_disk d old disk) sink given (ending given.status)) (sym c.end_with.ensures.disk)
    (fault_ends sink (HasCopied name fresh (seen_disk d old new) given) (StopsCopy name fresh (seen_disk d old new) sink given) given.status (fault_of_copy w)
    (c.end_with.ensures.status ∙ ap status_by c.fault_of.ensures)
    (record { unrun = subst (IsUnrun sink given) c.fault_of.ensures c.end_with.ensures.unrun; why = none })))

pub returns-in-Ok-clause-complete : goal.returns-in-Ok-clause-complete
returns-in-Ok-clause-complete g c can calm quiet room =
    subst IsComplete (sym c.empty_outcome.ensures.status)
    (put_complete (seen_sink g.W.Sink.held g.W.Sink.faults c.args.sink.now c.put_copied-status.new.sink) (copied_text c.as_str-fresh.result.now c.in-Ok.copied.number) c.put_copied-status.result c.put_copied-status.ensures.put quiet)

pub returns-in-Err-clause-complete : goal.returns-in-Err-clause-complete
returns-in-Err-clause-complete g c can calm quiet room =
    let d = g.D.Disk in
    let name = c.as_str-name.result.now in
    let fresh = c.as_str-fresh.result.now in
    let old = c.args.disk in
    let watched = c.new-watched.result in
    let new = c.into_disk-in-Err.result in
    let w = c.in-Err.fault.why in
    let was = c.in-Err.fault.disk in
    let at = c.new-watched.ensures in
    let back = c.into_disk-in-Err.ensures.same in
    let gone = goes_on d g.met.D.Disk.counts_now old g.N.Handed.start new c.requires.start c.into_disk-in-Err.ensures.gone_on in
    let now = c.end_with.ensures.disk in
    not_done d name fresh old new gone (subst (λ (disk : g.row.D.Denot). CanCopy name fresh (seen_disk d old disk)) now
    (named (λ n f. CanCopy n f (seen_disk d old c.end_with.result.disk)) (string_bytes c.args.name.now) name (string_bytes c.args.fresh.now) fresh (sym c.as_str-name.ensures.value) (sym c.as_str-fresh.ensures.value) can)) w
    (moved (λ (o n : g.row.D.Denot). HasCopyCause d name fresh o n w) watched old new was at back c.in-Err.ensures.cause)
    (moved (λ (o n : g.row.D.Denot). d.tells → Accepted (d.reading o) → (bad : Bad) → w ≡ why.Foreign bad → ⊥) watched old new was at back c.in-Err.ensures.not_foreign)
    (λ rose. calm (subst (λ (disk : g.row.D.Denot). Rose (d.faults old) (d.faults disk)) (sym now) rose))
    c.end_with.result.status (c.end_with.ensures.status ∙ ap status_by c.fault_of.ensures) room
