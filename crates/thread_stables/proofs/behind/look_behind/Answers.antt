use Rattle.std.proofs.Common.{ap, refl, subst, ◌∙◌}
use Rattle.std.specs.Prelude.{Result, ⊤}
use Rattle.kernel_core_facts.specs.Looked.{StepsOnce}
use Rattle.kernel_core_facts.specs.Stepping.{is_owing}
use Rattle.kernel_core_facts.specs.kernel_commit_facts.Parts.{parts_of}
use Rattle.kernel_core_facts.specs.kernel_invariant.declared.stopping.Stopped.{Stopped}
use Rattle.thread_looks.specs.Behind.{KeepsBehind}
use Rattle.thread_looks.proofs.After.{kept_ended, kept_stopped, look_failed, look_idle}
use Rattle.thread_looks.proofs.Ends.{ok_look}
use Rattle.thread_stables.proofs.behind.look_behind.Goals as goal

pub returns-in-Err-clause-looks : goal.returns-in-Err-clause-looks
returns-in-Err-clause-looks g c supply old steady step =
    let d = g.D.Disk in
    let now = parts_of c.args.store.now c.args.all.now c.args.notes.now in
    look_failed d supply (g.P.Policy.wish c.args.gate.now.policy) c.args.me old now c.in-Err.why (subst (StepsOnce d supply c.args.me old now) c.in-Err.is step)

pub returns-in-Idle-clause-looks : goal.returns-in-Idle-clause-looks
returns-in-Idle-clause-looks g c supply old steady step =
    let d = g.D.Disk in
    let now = parts_of c.args.store.now c.args.all.now c.args.notes.now in
    look_idle d supply (g.P.Policy.wish c.args.gate.now.policy) c.args.me old now c.in-Idle.why steady (subst (StepsOnce d supply c.args.me old now) (c.in-Ok.is ∙ ap ok_look c.in-Idle.is) step)

pub returns-in-Ok-keep_behind-clause-looks : goal.returns-in-Ok-keep_behind-clause-looks
returns-in-Ok-keep_behind-clause-looks g c supply old steady step =
    let d = g.D.Disk in
    let now = parts_of c.args.store.now c.args.all.now c.args.notes.now in
    let new = parts_of c.keep_behind.new.store c.keep_behind.new.all c.keep_behind.new.notes in
    let policy = g.P.Policy.wish c.args.gate.now.policy in
    let m = c.in-Made.made in
    let owes = is_owing m.instr m.entry.answer in
    kept_ended d supply policy c.args.me old now m (subst (StepsOnce d supply c.args.me old now) (c.in-Ok.is ∙ ap ok_look c.in-Made.is) step) owes refl new
    (subst (λ (q : Result ⊤ Stopped). KeepsBehind d policy owes m.entry q now new) c.in-Ok-keep_behind.is c.keep_behind.ensures.keeps)

pub returns-in-Err-keep_behind-clause-looks : goal.returns-in-Err-keep_behind-clause-looks
returns-in-Err-keep_behind-clause-looks g c supply old steady step =
    let d = g.D.Disk in
    let now = parts_of c.args.store.now c.args.all.now c.args.notes.now in
    let new = parts_of c.keep_behind.new.store c.keep_behind.new.all c.keep_behind.new.notes in
    let policy = g.P.Policy.wish c.args.gate.now.policy in
    let m = c.in-Made.made in
    let owes = is_owing m.instr m.entry.answer in
    kept_stopped d supply policy c.args.me old now m (subst (StepsOnce d supply c.args.me old now) (c.in-Ok.is ∙ ap ok_look c.in-Made.is) step) owes refl new c.in-Err-keep_behind.why
    (subst (λ (q : Result ⊤ Stopped). KeepsBehind d policy owes m.entry q now new) c.in-Err-keep_behind.is c.keep_behind.ensures.keeps)
