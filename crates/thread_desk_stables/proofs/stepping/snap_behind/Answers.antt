use Rattle.std.proofs.Common.{ap, subst, ◌∙◌}
use Rattle.thread_stables.specs.kernel_core_facts.Looked.{StepsOnce}
use Rattle.thread_stables.specs.kernel_core_facts.kernel_commit_facts.Parts.{parts_of}
use Rattle.thread_stables.proofs.thread_looks_lemmas.Adding.{behind_failed, behind_idle, behind_made}
use Rattle.thread_stables.proofs.thread_looks_lemmas.After.{came_failed, came_idle}
use Rattle.thread_stables.proofs.thread_looks_lemmas.Ends.{ok_look}
use Rattle.thread_desk_stables.proofs.stepping.snap_behind.Goals as goal

pub returns-in-Err-clause-adds : goal.returns-in-Err-clause-adds
returns-in-Err-clause-adds g c = behind_failed c.args.came c.args.notes.now.entries c.in-Err.why c.in-Err.is

pub returns-in-Err-clause-looks : goal.returns-in-Err-clause-looks
returns-in-Err-clause-looks g c supply me old steady step = record {
  owing = λ yes. absurd (cc yes);
  looks = λ no. came_failed g.D.Disk supply (g.P.Policy.wish c.args.gate.now.policy) me old (parts_of c.args.store.now c.args.all.now c.args.notes.now) c.args.came step c.in-Err.why c.in-Err.is;
}

pub returns-in-Idle-clause-adds : goal.returns-in-Idle-clause-adds
returns-in-Idle-clause-adds g c = behind_idle c.args.came c.args.notes.now.entries c.in-Ok.looked c.in-Idle.why c.in-Ok.is c.in-Idle.is

pub returns-in-Idle-clause-looks : goal.returns-in-Idle-clause-looks
returns-in-Idle-clause-looks g c supply me old steady step = record {
  owing = λ yes. absurd (cc yes);
  looks = λ no. came_idle g.D.Disk supply (g.P.Policy.wish c.args.gate.now.policy) me old (parts_of c.args.store.now c.args.all.now c.args.notes.now) c.args.came step c.in-Ok.looked c.in-Idle.why c.in-Ok.is c.in-Idle.is steady;
}

pub returns-in-Made-clause-adds : goal.returns-in-Made-clause-adds
returns-in-Made-clause-adds g c =
    behind_made c.args.came c.args.notes.now.entries c.in-Ok.looked c.in-Made.made c.snap_unless_owing.new.notes.entries c.in-Ok.is c.in-Made.is c.snap_unless_owing.ensures.adds

pub returns-in-Made-clause-looks : goal.returns-in-Made-clause-looks
returns-in-Made-clause-looks g c supply me old steady step =
    c.snap_unless_owing.ensures.looks supply me old steady
    (subst (StepsOnce g.D.Disk supply me old (parts_of c.args.store.now c.args.all.now c.args.notes.now)) (c.in-Ok.is ∙ ap ok_look c.in-Made.is) step)
