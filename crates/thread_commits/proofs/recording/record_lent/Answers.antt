use Rattle.std.proofs.Common.{◌≡◌, Err, sym, ap, subst, ◌∙◌, refl}
use Rattle.kernel_commit_facts.specs.kernel_book_laws.Matching.{version_at, version_of}
use Rattle.kernel_commit_facts.specs.Parts.{parts_of}
use Rattle.kernel_commit_facts.specs.Recording.{with_fault}
use Rattle.kernel_commit_facts.specs.model_kernel.Histories.{mark}
use Rattle.kernel_commit_facts.proofs.Enough.{short_lacks}
use Rattle.base_types.specs.declared.histories.Event.TheVariants.{Snap, Tried}
use Rattle.kernel_commits.specs.Recording.{GoesOnBy}
use Rattle.kernel_commits.proofs.Answering.{err_fails, err_run, err_short, of_commit, ok_recorded, ok_run, ok_short}
use Rattle.thread_commits.proofs.recording.record_lent.Goals as goal

pub returns-in-Ok-clause-recorded : goal.returns-in-Ok-clause-recorded
returns-in-Ok-clause-recorded g c =
    let x = c.args.cell.now.number in
    let version : c.named-entity.result.1 ≡ version_of c.args.all.now c.args.cell.now.number = c.named-entity.ensures.version ∙ ap version_at (sym c.in-Ok.ensures.stands) in
    ok_recorded g.D.Disk x (parts_of c.args.store.now c.args.all.now c.args.notes.now) c.args.store.now c.args.all.now c.args.all.now c.args.notes.now refl refl
    c.commit_lent.new.store c.commit_lent.new.all c.named-entity.result.1 version c.requires.can c.mark_entry.result (c.mark_entry.ensures ∙ ap (λ n. mark Snap n c.named-entity.result.1) c.named-entity.ensures.entity) c.push_entry.new.self c.push_entry.ensures c.begun.result c.begun.ensures c.push_mark.new.self c.push_mark.ensures c.in-Ok.ensures.made

pub returns-in-Ok-clause-no_blocks : goal.returns-in-Ok-clause-no_blocks
returns-in-Ok-clause-no_blocks g c =
    let x = c.args.cell.now.number in
    let version : c.named-entity.result.1 ≡ version_of c.args.all.now c.args.cell.now.number = c.named-entity.ensures.version ∙ ap version_at (sym c.in-Ok.ensures.stands) in
    ok_short g.D.Disk x (parts_of c.args.store.now c.args.all.now c.args.notes.now) c.args.store.now c.args.all.now c.args.all.now c.args.notes.now refl refl
    c.commit_lent.new.store c.commit_lent.new.all c.named-entity.result.1 version c.requires.can c.commit_lent.result c.commit_lent.ensures.faults c.in-Ok.field-0 c.in-Ok.is c.in-Ok.ensures.made

pub returns-in-Ok-clause-run : goal.returns-in-Ok-clause-run
returns-in-Ok-clause-run g c = λ told b may.
    let x = c.args.cell.now.number in
    let version : c.named-entity.result.1 ≡ version_of c.args.all.now c.args.cell.now.number = c.named-entity.ensures.version ∙ ap version_at (sym c.in-Ok.ensures.stands) in
    ok_run g.D.Disk x (parts_of c.args.store.now c.args.all.now c.args.notes.now) c.args.store.now c.args.all.now c.args.all.now c.args.notes.now refl refl
    c.commit_lent.new.store c.commit_lent.new.all c.named-entity.result.1 version c.requires.can c.mark_entry.result (c.mark_entry.ensures ∙ ap (λ n. mark Snap n c.named-entity.result.1) c.named-entity.ensures.entity) c.push_entry.new.self c.push_entry.ensures c.begun.result c.begun.ensures c.push_mark.new.self c.push_mark.ensures c.in-Ok.ensures.made
    g.met.D.Disk.counts_later g.met.D.Disk.only_now c.in-Ok.ensures.counts told b may

pub returns-in-Ok-clause-fails : goal.returns-in-Ok-clause-fails
returns-in-Ok-clause-fails g c = record { untouched = λ n is. absurd (cc is); tried = λ is. absurd (cc is); no_read = λ is. cc is }

pub note_fault-requires-clause-kind : goal.note_fault-requires-clause-kind
note_fault-requires-clause-kind g c =
    let x = c.args.cell.now.number in
    let version : c.named-entity.result.1 ≡ version_of c.args.all.now c.args.cell.now.number = c.named-entity.ensures.version ∙ ap version_at (sym c.in-Err.ensures.stands) in
    of_commit g.D.Disk x (parts_of c.args.store.now c.args.all.now c.args.notes.now) c.args.store.now c.args.all.now c.args.all.now c.args.notes.now refl refl
    c.commit_lent.new.store c.commit_lent.new.all c.named-entity.result.1 version c.requires.can _ refl c.commit_lent.result c.commit_lent.ensures.faults c.in-Err.ensures.unmade c.in-Err.fault c.in-Err.is

pub returns-in-Err-clause-fails : goal.returns-in-Err-clause-fails
returns-in-Err-clause-fails g c =
    let x = c.args.cell.now.number in
    let version : c.named-entity.result.1 ≡ version_of c.args.all.now c.args.cell.now.number = c.named-entity.ensures.version ∙ ap version_at (sym c.in-Err.ensures.stands) in
    err_fails g.D.Disk x (parts_of c.args.store.now c.args.all.now c.args.notes.now) c.args.store.now c.args.all.now c.args.all.now c.args.notes.now refl refl
    c.commit_lent.new.store c.commit_lent.new.all c.named-entity.result.1 version c.requires.can _ refl c.commit_lent.result c.commit_lent.ensures.faults c.in-Err.ensures.unmade c.in-Err.fault c.in-Err.is
    c.note_fault.new.notes (c.note_fault.ensures.noted ∙ ap (λ n. with_fault c.in-Err.fault (mark Tried n c.named-entity.result.1) c.args.notes.now) c.named-entity.ensures.entity) c.note_fault.result c.note_fault.ensures.why

pub returns-in-Err-clause-no_blocks : goal.returns-in-Err-clause-no_blocks
returns-in-Err-clause-no_blocks g c = λ n.
    let x = c.args.cell.now.number in
    let version : c.named-entity.result.1 ≡ version_of c.args.all.now c.args.cell.now.number = c.named-entity.ensures.version ∙ ap version_at (sym c.in-Err.ensures.stands) in
    let h = err_short g.D.Disk x (parts_of c.args.store.now c.args.all.now c.args.notes.now) c.args.store.now c.args.all.now c.args.all.now c.args.notes.now refl refl
    c.commit_lent.new.store c.commit_lent.new.all c.named-entity.result.1 version c.requires.can _ refl c.commit_lent.result c.commit_lent.ensures.faults c.in-Err.ensures.unmade c.in-Err.fault c.in-Err.is n in
    ((λ is. h.0 (sym (ap (λ w. Err w) c.note_fault.ensures.why) ∙ is)), (λ short. ap (λ w. Err w) c.note_fault.ensures.why ∙ h.1 short))

pub returns-in-Err-clause-run : goal.returns-in-Err-clause-run
returns-in-Err-clause-run g c = λ told b may.
    let x = c.args.cell.now.number in
    let version : c.named-entity.result.1 ≡ version_of c.args.all.now c.args.cell.now.number = c.named-entity.ensures.version ∙ ap version_at (sym c.in-Err.ensures.stands) in
    subst (λ w. GoesOnBy g.D.Disk b (Err w) (parts_of c.commit_lent.new.store c.commit_lent.new.all c.note_fault.new.notes)) (sym c.note_fault.ensures.why)
    (err_run g.D.Disk x (parts_of c.args.store.now c.args.all.now c.args.notes.now) c.args.store.now c.args.all.now c.args.all.now c.args.notes.now refl refl
    c.commit_lent.new.store c.commit_lent.new.all c.named-entity.result.1 version c.requires.can _ refl c.commit_lent.result c.commit_lent.ensures.faults c.in-Err.ensures.unmade
    g.met.D.Disk.counts_later g.met.D.Disk.only_now c.in-Err.ensures.counts c.in-Err.fault c.in-Err.is c.note_fault.new.notes (c.note_fault.ensures.noted ∙ ap (λ n. with_fault c.in-Err.fault (mark Tried n c.named-entity.result.1) c.args.notes.now) c.named-entity.ensures.entity) told b may)

pub returns-in-Err-clause-enough : goal.returns-in-Err-clause-enough
returns-in-Err-clause-enough g c = λ told b may whole n is.
    let x = c.args.cell.now.number in
    let version : c.named-entity.result.1 ≡ version_of c.args.all.now c.args.cell.now.number = c.named-entity.ensures.version ∙ ap version_at (sym c.in-Err.ensures.stands) in
    let h = err_short g.D.Disk x (parts_of c.args.store.now c.args.all.now c.args.notes.now) c.args.store.now c.args.all.now c.args.all.now c.args.notes.now refl refl
    c.commit_lent.new.store c.commit_lent.new.all c.named-entity.result.1 version c.requires.can _ refl c.commit_lent.result c.commit_lent.ensures.faults c.in-Err.ensures.unmade c.in-Err.fault c.in-Err.is n in
    short_lacks g.D.Disk b (parts_of c.args.store.now c.args.all.now c.args.notes.now) told may.stands whole x n (h.0 (sym (ap (λ w. Err w) c.note_fault.ensures.why) ∙ is))
