use Rattle.kernel_core_facts.specs.kernel_commit_facts.Parts.{parts_of}
use Rattle.thread_looks.proofs.Adding.{behind_failed, behind_idle, behind_made}
use Rattle.thread_looks.proofs.After.{came_ended, came_failed, came_idle, came_stopped}
use Rattle.thread_looks.proofs.behind.snap_behind_two.Goals as goal

pub returns-in-Err-clause-looks : goal.returns-in-Err-clause-looks
returns-in-Err-clause-looks g c supply me old steady step free =
    came_failed g.D.Disk supply (g.P.Policy.wish c.args.gate.now.policy) me old (parts_of c.args.store.now c.args.all.now c.args.notes.now) c.args.came step c.in-Err.why c.in-Err.is

pub returns-in-Err-clause-adds : goal.returns-in-Err-clause-adds
returns-in-Err-clause-adds g c = behind_failed c.args.came c.args.notes.now.entries c.in-Err.why c.in-Err.is

pub returns-in-Idle-clause-looks : goal.returns-in-Idle-clause-looks
returns-in-Idle-clause-looks g c supply me old steady step free =
    came_idle g.D.Disk supply (g.P.Policy.wish c.args.gate.now.policy) me old (parts_of c.args.store.now c.args.all.now c.args.notes.now) c.args.came step c.in-Ok.looked c.in-Idle.why c.in-Ok.is c.in-Idle.is steady

pub returns-in-Idle-clause-adds : goal.returns-in-Idle-clause-adds
returns-in-Idle-clause-adds g c = behind_idle c.args.came c.args.notes.now.entries c.in-Ok.looked c.in-Idle.why c.in-Ok.is c.in-Idle.is

pub returns-in-Ok-snap_touched_two-clause-looks : goal.returns-in-Ok-snap_touched_two-clause-looks
returns-in-Ok-snap_touched_two-clause-looks g c supply me old steady step free =
    came_ended g.D.Disk supply (g.P.Policy.wish c.args.gate.now.policy) me old (parts_of c.args.store.now c.args.all.now c.args.notes.now) c.args.came step c.in-Ok.looked c.in-Made.made c.in-Ok.is c.in-Made.is free
    (parts_of c.snap_touched_two.new.store c.snap_touched_two.new.all c.snap_touched_two.new.notes) c.snap_touched_two.result c.snap_touched_two.ensures.snaps c.in-Ok-snap_touched_two.is

pub returns-in-Ok-snap_touched_two-clause-adds : goal.returns-in-Ok-snap_touched_two-clause-adds
returns-in-Ok-snap_touched_two-clause-adds g c =
    behind_made c.args.came c.args.notes.now.entries c.in-Ok.looked c.in-Made.made c.snap_touched_two.new.notes.entries c.in-Ok.is c.in-Made.is c.snap_touched_two.ensures.snaps.adds

pub returns-in-Err-snap_touched_two-clause-looks : goal.returns-in-Err-snap_touched_two-clause-looks
returns-in-Err-snap_touched_two-clause-looks g c supply me old steady step free =
    came_stopped g.D.Disk supply (g.P.Policy.wish c.args.gate.now.policy) me old (parts_of c.args.store.now c.args.all.now c.args.notes.now) c.args.came step c.in-Ok.looked c.in-Made.made c.in-Ok.is c.in-Made.is free
    (parts_of c.snap_touched_two.new.store c.snap_touched_two.new.all c.snap_touched_two.new.notes) c.snap_touched_two.result c.snap_touched_two.ensures.snaps c.in-Err-snap_touched_two.why c.in-Err-snap_touched_two.is

pub returns-in-Err-snap_touched_two-clause-adds : goal.returns-in-Err-snap_touched_two-clause-adds
returns-in-Err-snap_touched_two-clause-adds g c =
    behind_made c.args.came c.args.notes.now.entries c.in-Ok.looked c.in-Made.made c.snap_touched_two.new.notes.entries c.in-Ok.is c.in-Made.is c.snap_touched_two.ensures.snaps.adds
