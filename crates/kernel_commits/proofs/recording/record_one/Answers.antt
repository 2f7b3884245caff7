use Rattle.std.proofs.Common.{Err, Ok, sym, ap, subst, ◌∙◌, refl}
use Rattle.kernel_commit_facts.specs.kernel_book_laws.Matching.{version_of}
use Rattle.kernel_commit_facts.specs.Parts.{parts_of}
use Rattle.kernel_commits.specs.Recording.{Fails, GoesOnBy}
use Rattle.kernel_commit_facts.specs.Recording.{HasRecorded}
use Rattle.kernel_commits.proofs.Answering.{err_fails, err_run, err_short, of_commit, ok_recorded, ok_run, ok_short, refilled, stop_result}
use Rattle.kernel_commit_facts.proofs.Enough.{short_lacks}
use Rattle.kernel_commits.proofs.recording.record_one.Goals as goal

pub returns-in-Ok-clause-recorded : goal.returns-in-Ok-clause-recorded
returns-in-Ok-clause-recorded g c =
    subst (λ cs. HasRecorded g.D.Disk c.args.entity c.args.core.now (parts_of c.commit_among.new.store cs c.push_mark.new.self)) (sym (refilled c.core.inside.cells.len c.core.inside.cells.items c.commit_among.new.cells (c.in-Ok.ensures.made.commits.lends.len ∙ c.deref_mut.ensures.len)))
    (ok_recorded g.D.Disk c.args.entity c.args.core.now c.core.inside.store c.core.inside.cells.items c.deref_mut.result.now c.core.inside.notes c.core.view_is c.deref_mut.ensures.value
    c.commit_among.new.store c.commit_among.new.cells c.version_among-version.result (c.version_among-version.ensures ∙ ap (λ cs. version_of cs c.args.entity) c.deref.ensures.value) c.requires.can c.mark_entry.result c.mark_entry.ensures c.push_entry.new.self c.push_entry.ensures c.begun.result c.begun.ensures c.push_mark.new.self c.push_mark.ensures c.in-Ok.ensures.made)

pub returns-in-Ok-clause-no_blocks : goal.returns-in-Ok-clause-no_blocks
returns-in-Ok-clause-no_blocks g c =
    ok_short g.D.Disk c.args.entity c.args.core.now c.core.inside.store c.core.inside.cells.items c.deref_mut.result.now c.core.inside.notes c.core.view_is c.deref_mut.ensures.value
    c.commit_among.new.store c.commit_among.new.cells c.version_among-version.result (c.version_among-version.ensures ∙ ap (λ cs. version_of cs c.args.entity) c.deref.ensures.value) c.requires.can c.commit_among.result c.commit_among.ensures.faults c.in-Ok.field-0 c.in-Ok.is c.in-Ok.ensures.made

pub returns-in-Ok-clause-run : goal.returns-in-Ok-clause-run
returns-in-Ok-clause-run g c = λ told b may.
    subst (λ cs. GoesOnBy g.D.Disk b (Ok tt) (parts_of c.commit_among.new.store cs c.push_mark.new.self)) (sym (refilled c.core.inside.cells.len c.core.inside.cells.items c.commit_among.new.cells (c.in-Ok.ensures.made.commits.lends.len ∙ c.deref_mut.ensures.len)))
    (ok_run g.D.Disk c.args.entity c.args.core.now c.core.inside.store c.core.inside.cells.items c.deref_mut.result.now c.core.inside.notes c.core.view_is c.deref_mut.ensures.value
    c.commit_among.new.store c.commit_among.new.cells c.version_among-version.result (c.version_among-version.ensures ∙ ap (λ cs. version_of cs c.args.entity) c.deref.ensures.value) c.requires.can c.mark_entry.result c.mark_entry.ensures c.push_entry.new.self c.push_entry.ensures c.begun.result c.begun.ensures c.push_mark.new.self c.push_mark.ensures c.in-Ok.ensures.made
    g.met.D.Disk.counts_later g.met.D.Disk.only_now c.in-Ok.ensures.counts told b may)

pub returns-in-Ok-clause-fails : goal.returns-in-Ok-clause-fails
returns-in-Ok-clause-fails g c = record { untouched = λ n is. absurd (cc is); tried = λ is. absurd (cc is); no_read = λ is. cc is }

pub note_fault-requires-clause-kind : goal.note_fault-requires-clause-kind
note_fault-requires-clause-kind g c =
    of_commit g.D.Disk c.args.entity c.args.core.now c.core.inside.store c.core.inside.cells.items c.deref_mut.result.now c.core.inside.notes c.core.view_is c.deref_mut.ensures.value
    c.commit_among.new.store c.commit_among.new.cells c.version_among-version.result (c.version_among-version.ensures ∙ ap (λ cs. version_of cs c.args.entity) c.deref.ensures.value) c.requires.can _ refl c.commit_among.result c.commit_among.ensures.faults c.in-Err.ensures.unmade c.in-Err.fault c.in-Err.is

pub returns-in-Err-clause-fails : goal.returns-in-Err-clause-fails
returns-in-Err-clause-fails g c =
    subst (λ cs. Fails g.D.Disk c.args.entity (stop_result c.note_fault.result) c.args.core.now (parts_of c.commit_among.new.store cs c.note_fault.new.notes)) (sym (refilled c.core.inside.cells.len c.core.inside.cells.items c.commit_among.new.cells (c.in-Err.ensures.unmade.commits.lends.len ∙ c.deref_mut.ensures.len)))
    (err_fails g.D.Disk c.args.entity c.args.core.now c.core.inside.store c.core.inside.cells.items c.deref_mut.result.now c.core.inside.notes c.core.view_is c.deref_mut.ensures.value
    c.commit_among.new.store c.commit_among.new.cells c.version_among-version.result (c.version_among-version.ensures ∙ ap (λ cs. version_of cs c.args.entity) c.deref.ensures.value) c.requires.can _ refl c.commit_among.result c.commit_among.ensures.faults c.in-Err.ensures.unmade c.in-Err.fault c.in-Err.is c.note_fault.new.notes c.note_fault.ensures.noted c.note_fault.result c.note_fault.ensures.why)

pub returns-in-Err-clause-no_blocks : goal.returns-in-Err-clause-no_blocks
returns-in-Err-clause-no_blocks g c = λ n.
    let h = err_short g.D.Disk c.args.entity c.args.core.now c.core.inside.store c.core.inside.cells.items c.deref_mut.result.now c.core.inside.notes c.core.view_is c.deref_mut.ensures.value
    c.commit_among.new.store c.commit_among.new.cells c.version_among-version.result (c.version_among-version.ensures ∙ ap (λ cs. version_of cs c.args.entity) c.deref.ensures.value) c.requires.can _ refl c.commit_among.result c.commit_among.ensures.faults c.in-Err.ensures.unmade c.in-Err.fault c.in-Err.is n in
    ((λ is. h.0 (sym (ap (λ w. Err w) c.note_fault.ensures.why) ∙ is)), (λ short. ap (λ w. Err w) c.note_fault.ensures.why ∙ h.1 short))

pub returns-in-Err-clause-run : goal.returns-in-Err-clause-run
returns-in-Err-clause-run g c = λ told b may.
    subst (λ w. GoesOnBy g.D.Disk b (Err w) (parts_of c.commit_among.new.store (Rattle.std.specs.Vec.with_items c.core.inside.cells c.commit_among.new.cells).items c.note_fault.new.notes)) (sym c.note_fault.ensures.why)
    (subst (λ cs. GoesOnBy g.D.Disk b (Err (Rattle.kernel_commits.specs.Recording.why_of c.in-Err.fault)) (parts_of c.commit_among.new.store cs c.note_fault.new.notes)) (sym (refilled c.core.inside.cells.len c.core.inside.cells.items c.commit_among.new.cells (c.in-Err.ensures.unmade.commits.lends.len ∙ c.deref_mut.ensures.len)))
    (err_run g.D.Disk c.args.entity c.args.core.now c.core.inside.store c.core.inside.cells.items c.deref_mut.result.now c.core.inside.notes c.core.view_is c.deref_mut.ensures.value
    c.commit_among.new.store c.commit_among.new.cells c.version_among-version.result (c.version_among-version.ensures ∙ ap (λ cs. version_of cs c.args.entity) c.deref.ensures.value) c.requires.can _ refl c.commit_among.result c.commit_among.ensures.faults c.in-Err.ensures.unmade
    g.met.D.Disk.counts_later g.met.D.Disk.only_now c.in-Err.ensures.counts c.in-Err.fault c.in-Err.is c.note_fault.new.notes c.note_fault.ensures.noted told b may))

pub returns-in-Err-clause-enough : goal.returns-in-Err-clause-enough
returns-in-Err-clause-enough g c = λ told b may whole n is.
    let h = err_short g.D.Disk c.args.entity c.args.core.now c.core.inside.store c.core.inside.cells.items c.deref_mut.result.now c.core.inside.notes c.core.view_is c.deref_mut.ensures.value
    c.commit_among.new.store c.commit_among.new.cells c.version_among-version.result (c.version_among-version.ensures ∙ ap (λ cs. version_of cs c.args.entity) c.deref.ensures.value) c.requires.can _ refl c.commit_among.result c.commit_among.ensures.faults c.in-Err.ensures.unmade c.in-Err.fault c.in-Err.is n in
    short_lacks g.D.Disk b c.args.core.now told may.stands whole c.args.entity n (h.0 (sym (ap (λ w. Err w) c.note_fault.ensures.why) ∙ is))
