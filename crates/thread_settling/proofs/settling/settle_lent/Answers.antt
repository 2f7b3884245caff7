use Rattle.thread_commits.specs.kernel_commit_facts.Parts.{parts_of}
use Rattle.thread_settling.proofs.Settled.{fails_settled, settled}
use Rattle.thread_settling.proofs.settling.settle_lent.Goals as goal

pub returns-in-Err-clause-settles : goal.returns-in-Err-clause-settles
returns-in-Err-clause-settles g c =
    fails_settled g.D.Disk c.args.actor (parts_of c.args.store.now c.args.all.now c.args.notes.now) c.requires.steady c.in-Err.why
    (parts_of c.record_changed.new.store c.record_changed.new.all c.record_changed.new.notes) c.in-Err.ensures.records

pub returns-clause-settles : goal.returns-clause-settles
returns-clause-settles g c =
    let n = c.note_stable.ensures in
    let s = c.noted_so_far-entries in
    settled g.D.Disk c.args.actor (parts_of c.args.store.now c.args.all.now c.args.notes.now) c.requires.steady c.record_changed.new.store c.record_changed.new.all c.record_changed.new.notes c.note_stable.new.notes
    c.in_default.ensures.records s.result.0 s.result.1 s.ensures.entries s.ensures.marks n.entries n.marks n.room c.requires.spare
