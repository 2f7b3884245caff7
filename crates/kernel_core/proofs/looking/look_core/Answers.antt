use Rattle.std.proofs.Common.{◌≡◌, ◌*◌, inl, inr, Some, None, Ok, sym, ap, subst, refl, ◌∙◌, if◌then◌else◌}
use Rattle.std.specs.Prelude.{⊤}
use Rattle.kernel_core_facts.specs.Looking.{LooksInRun}
use Rattle.kernel_core_facts.specs.declared.looked.Looked.{Looked}
use Rattle.kernel_core_facts.specs.declared.looked.Looked.TheVariants.{Idle, Made}
use Rattle.kernel_core_facts.specs.kernel_commit_facts.Parts.{Noted, Parts}
use Rattle.kernel_core_facts.specs.kernel_commit_facts.Short.{AreShortBehind}
use Rattle.kernel_core_facts.specs.kernel_commits.Stops.{LeavesStopped}
use Rattle.kernel_core_facts.specs.model_serial.Serial.{written_in}
use Rattle.kernel_core_facts.specs.Looked.{StepsOnce}
use Rattle.kernel_core_facts.specs.Stepping.{idle_at}
use Rattle.kernel_core_facts.specs.kernel_invariant.declared.stopping.Stopped.TheVariants as reason
use Rattle.kernel_core_facts.proofs.kernel_commits_lemmas.Telling.{adds_none, adds_then}
use Rattle.kernel_core_facts.proofs.kernel_commits_lemmas.Wishing.{err_over}
use Rattle.kernel_core_facts.proofs.kernel_commit_facts_lemmas.Counting.{CountsWithin-then}
use Rattle.kernel_core.proofs.LookMade.{err_stepped, idle_behind, never_wanting, no_faults, ok_look, ok_stepped, rose_at, rose_behind, step_untried, stopped_for, tries_look, tries_none}
use Rattle.kernel_core_facts.proofs.LookMade.{free_then, lacks_behind_step, look_behind_step, look_still, owes_is, owes_then, part_at_step, part_behind_step}
use Rattle.kernel_core.proofs.looking.look_core.Goals as goal

pub returns-in-Ok-clause-run : goal.returns-in-Ok-clause-run
returns-in-Ok-clause-run g c = λ told b same policy stands calm.
    let d = g.D.Disk in
    let once = subst (λ (o : Looked). StepsOnce d (g.S.Supplier.word c.args.gate.now.supply) c.args.me c.args.core.now c.step_core.new.core (Ok o)) c.in-Ok-Made.field-0-is c.in-Ok-Made.ensures in
    let run = once.run told b same stands calm in
    let owed = owes_is d b (g.P.Policy.wish c.args.gate.now.policy) policy c.args.me c.args.core.now stands calm c.step_core.new.core c.in-Ok-Made.made.entry once.made run c.in-Ok-Made.made.instr once.next in
    ok_stepped d b (g.P.Policy.wish c.args.gate.now.policy) policy c.args.me c.args.core.now stands calm c.keep_behind.result c.in-Ok.field-0 c.in-Ok-Made.made c.keep_behind.new.core c.in-Ok.is
    (look_behind_step d b (g.P.Policy.wish c.args.gate.now.policy) policy c.args.me c.args.core.now stands calm c.step_core.new.core c.in-Ok-Made.made.entry once.made run
    c.owes_stable-owes.result (owed ∙ ap (λ t. if t then Some c.args.me else None) (sym c.owes_stable-owes.ensures)) c.keep_behind.result c.keep_behind.new.core
    c.keep_behind.ensures.stabilised (λ is. c.keep_behind.ensures.stable is told b) (λ is. c.keep_behind.ensures.snaps is told b))

pub returns-in-Err-keep_behind-clause-run : goal.returns-in-Err-keep_behind-clause-run
returns-in-Err-keep_behind-clause-run g c = λ told b same policy stands calm.
    let d = g.D.Disk in
    let once = subst (λ (o : Looked). StepsOnce d (g.S.Supplier.word c.args.gate.now.supply) c.args.me c.args.core.now c.step_core.new.core (Ok o)) c.in-Ok-Made.field-0-is c.in-Ok-Made.ensures in
    let run = once.run told b same stands calm in
    let owed = owes_is d b (g.P.Policy.wish c.args.gate.now.policy) policy c.args.me c.args.core.now stands calm c.step_core.new.core c.in-Ok-Made.made.entry once.made run c.in-Ok-Made.made.instr once.next in
    err_stepped d b (g.P.Policy.wish c.args.gate.now.policy) policy c.args.me c.args.core.now stands calm c.keep_behind.result c.in-Err-keep_behind.why c.keep_behind.new.core c.in-Err-keep_behind.is
    (look_behind_step d b (g.P.Policy.wish c.args.gate.now.policy) policy c.args.me c.args.core.now stands calm c.step_core.new.core c.in-Ok-Made.made.entry once.made run
    c.owes_stable-owes.result (owed ∙ ap (λ t. if t then Some c.args.me else None) (sym c.owes_stable-owes.ensures)) c.keep_behind.result c.keep_behind.new.core
    c.keep_behind.ensures.stabilised (λ is. c.keep_behind.ensures.stable is told b) (λ is. c.keep_behind.ensures.snaps is told b))

pub returns-in-Ok-Idle-clause-run : goal.returns-in-Ok-Idle-clause-run
returns-in-Ok-Idle-clause-run g c = λ told b same policy stands calm.
    let d = g.D.Disk in
    let once = subst (λ (o : Looked). StepsOnce d (g.S.Supplier.word c.args.gate.now.supply) c.args.me c.args.core.now c.step_core.new.core (Ok o)) c.in-Ok-Idle.field-0-is c.in-Ok-Idle.ensures in
    subst (λ (p : Parts g.row.D.Denot). LooksInRun d b (g.P.Policy.wish c.args.gate.now.policy) c.args.me (ok_look (Idle c.in-Ok-Idle.why)) c.args.core.now p) (sym (once.still c.in-Ok-Idle.why refl))
    (look_still d b (g.P.Policy.wish c.args.gate.now.policy) policy c.args.me c.args.core.now stands calm (once.run told b same stands calm) (ok_look (Idle c.in-Ok-Idle.why)) (Idle c.in-Ok-Idle.why) refl)

-- WHETHER IT STOPS

pub returns-in-Ok-clause-stopped : goal.returns-in-Ok-clause-stopped
returns-in-Ok-clause-stopped g c =
    let d = g.D.Disk in
    let once = subst (λ (o : Looked). StepsOnce d (g.S.Supplier.word c.args.gate.now.supply) c.args.me c.args.core.now c.step_core.new.core (Ok o)) c.in-Ok-Made.field-0-is c.in-Ok-Made.ensures in
    record { stopped = tt; wanting = λ n wants. never_wanting (Made c.in-Ok-Made.made) n ((once.short n).1 wants) }

pub returns-in-Ok-Idle-clause-stopped : goal.returns-in-Ok-Idle-clause-stopped
returns-in-Ok-Idle-clause-stopped g c =
    let d = g.D.Disk in
    let once = subst (λ (o : Looked). StepsOnce d (g.S.Supplier.word c.args.gate.now.supply) c.args.me c.args.core.now c.step_core.new.core (Ok o)) c.in-Ok-Idle.field-0-is c.in-Ok-Idle.ensures in
    record { stopped = tt; wanting = λ n wants. never_wanting (Idle c.in-Ok-Idle.why) n ((once.short n).1 wants) }

pub returns-in-Err-clause-stopped : goal.returns-in-Err-clause-stopped
returns-in-Err-clause-stopped g c =
    record { stopped = inl c.in-Err.ensures.failed; wanting = λ n wants. stopped_for c.in-Err.why n ((c.in-Err.ensures.short n).1 wants) }

pub returns-in-Err-keep_behind-clause-stopped : goal.returns-in-Err-keep_behind-clause-stopped
returns-in-Err-keep_behind-clause-stopped g c =
    let d = g.D.Disk in
    let once = subst (λ (o : Looked). StepsOnce d (g.S.Supplier.word c.args.gate.now.supply) c.args.me c.args.core.now c.step_core.new.core (Ok o)) c.in-Ok-Made.field-0-is c.in-Ok-Made.ensures in
    let made = c.in-Ok-Made.made in
    let new = c.keep_behind.new.core in
    record {
      stopped = inr (record {
        mid = c.step_core.new.core;
        entry = made.entry;
        stepped = once.made;
        instr = made.instr;
        next = once.next;
        leaves =
            subst (λ t. LeavesStopped d.faults (AreShortBehind d (g.P.Policy.wish c.args.gate.now.policy) t (written_in made.entry.touched) new) c.step_core.new.core new c.in-Err-keep_behind.why) c.owes_stable-owes.ensures
            c.in-Err-keep_behind.ensures.stopped;
      });
      wanting = λ n wants. never_wanting (Made made) n ((once.short n).1 wants);
    }

pub returns-in-Err-keep_behind-clause-part : goal.returns-in-Err-keep_behind-clause-part
returns-in-Err-keep_behind-clause-part g c = λ told b same policy stands calm.
    let d = g.D.Disk in
    let once = subst (λ (o : Looked). StepsOnce d (g.S.Supplier.word c.args.gate.now.supply) c.args.me c.args.core.now c.step_core.new.core (Ok o)) c.in-Ok-Made.field-0-is c.in-Ok-Made.ensures in
    let run = once.run told b same stands calm in
    let owed = owes_is d b (g.P.Policy.wish c.args.gate.now.policy) policy c.args.me c.args.core.now stands calm c.step_core.new.core c.in-Ok-Made.made.entry once.made run c.in-Ok-Made.made.instr once.next in
    part_behind_step d b (g.P.Policy.wish c.args.gate.now.policy) policy c.args.me c.args.core.now stands calm c.step_core.new.core c.in-Ok-Made.made.entry once.made run
    c.owes_stable-owes.result (owed ∙ ap (λ t. if t then Some c.args.me else None) (sym c.owes_stable-owes.ensures)) c.keep_behind.new.core.noted.entries
    (λ is. c.in-Err-keep_behind.ensures.stable_part is told b) (λ is. c.in-Err-keep_behind.ensures.snaps_part is told b)

pub returns-in-Err-clause-part : goal.returns-in-Err-clause-part
returns-in-Err-clause-part g c = λ told b same policy stands calm.
    let d = g.D.Disk in
    part_at_step d b (g.P.Policy.wish c.args.gate.now.policy) policy c.args.me c.args.core.now stands calm c.step_core.new.core c.in-Err.ensures.failed.noted

pub returns-in-Ok-clause-counts : goal.returns-in-Ok-clause-counts
returns-in-Ok-clause-counts g c =
    CountsWithin-then g.D.Disk 1 (64 * 1556) c.args.core.now.store c.step_core.new.core.store c.keep_behind.new.core.store c.step_core.ensures.counts c.keep_behind.ensures.counts

pub returns-in-Err-keep_behind-clause-counts : goal.returns-in-Err-keep_behind-clause-counts
returns-in-Err-keep_behind-clause-counts g c =
    CountsWithin-then g.D.Disk 1 (64 * 1556) c.args.core.now.store c.step_core.new.core.store c.keep_behind.new.core.store c.step_core.ensures.counts c.keep_behind.ensures.counts

pub returns-in-Err-keep_behind-clause-enough : goal.returns-in-Err-keep_behind-clause-enough
returns-in-Err-keep_behind-clause-enough g c = λ told b same policy stands calm n is.
    let d = g.D.Disk in
    let once = subst (λ (o : Looked). StepsOnce d (g.S.Supplier.word c.args.gate.now.supply) c.args.me c.args.core.now c.step_core.new.core (Ok o)) c.in-Ok-Made.field-0-is c.in-Ok-Made.ensures in
    let run = once.run told b same stands calm in
    let owed = owes_is d b (g.P.Policy.wish c.args.gate.now.policy) policy c.args.me c.args.core.now stands calm c.step_core.new.core c.in-Ok-Made.made.entry once.made run c.in-Ok-Made.made.instr once.next in
    let owes = owed ∙ ap (λ t. if t then Some c.args.me else None) (sym c.owes_stable-owes.ensures) in
    lacks_behind_step d b (g.P.Policy.wish c.args.gate.now.policy) policy c.args.me c.args.core.now stands calm c.step_core.new.core c.in-Ok-Made.made.entry once.made run c.owes_stable-owes.result owes c.keep_behind.new.core n
    (c.in-Err-keep_behind.ensures.enough told b
    (owes_then d b (g.P.Policy.wish c.args.gate.now.policy) policy c.args.me c.args.core.now stands calm c.step_core.new.core c.in-Ok-Made.made.entry once.made run c.owes_stable-owes.result owes)
    (free_then d b (g.P.Policy.wish c.args.gate.now.policy) policy c.args.me c.args.core.now stands calm c.step_core.new.core c.in-Ok-Made.made.entry once.made run c.owes_stable-owes.result owes)
    n (err_over Looked ⊤ c.in-Err-keep_behind.why (reason.NoBlocks n) is))

pub returns-in-Err-clause-enough : goal.returns-in-Err-clause-enough
returns-in-Err-clause-enough g c = λ told b same policy stands calm n is.
    c.in-Err.ensures.enough told b same stands calm n is

-- WHY NONE WAS MADE

pub returns-in-Ok-clause-idle : goal.returns-in-Ok-clause-idle
returns-in-Ok-clause-idle g c = λ s words why.
    let d = g.D.Disk in
    let once = subst (λ (o : Looked). StepsOnce d (g.S.Supplier.word c.args.gate.now.supply) c.args.me c.args.core.now c.step_core.new.core (Ok o)) c.in-Ok-Made.field-0-is c.in-Ok-Made.ensures in
    once.idle s words why

pub returns-in-Err-keep_behind-clause-idle : goal.returns-in-Err-keep_behind-clause-idle
returns-in-Err-keep_behind-clause-idle g c = λ s words why.
    let d = g.D.Disk in
    let once = subst (λ (o : Looked). StepsOnce d (g.S.Supplier.word c.args.gate.now.supply) c.args.me c.args.core.now c.step_core.new.core (Ok o)) c.in-Ok-Made.field-0-is c.in-Ok-Made.ensures in
    idle_behind c.in-Ok-Made.made c.in-Err-keep_behind.why why (idle_at s words c.args.me c.args.core.now.cells ≡ Some why) (once.idle s words why)

pub returns-in-Ok-Idle-clause-idle : goal.returns-in-Ok-Idle-clause-idle
returns-in-Ok-Idle-clause-idle g c = λ s words why.
    let d = g.D.Disk in
    let once = subst (λ (o : Looked). StepsOnce d (g.S.Supplier.word c.args.gate.now.supply) c.args.me c.args.core.now c.step_core.new.core (Ok o)) c.in-Ok-Idle.field-0-is c.in-Ok-Idle.ensures in
    once.idle s words why

pub returns-in-Err-clause-idle : goal.returns-in-Err-clause-idle
returns-in-Err-clause-idle g c = λ s words why. c.in-Err.ensures.idle s words why

pub returns-in-Ok-clause-clean : goal.returns-in-Ok-clause-clean
returns-in-Ok-clause-clean g c = λ told. c.in-Ok.ensures.clean told (g.S.Supplier.word c.args.gate.now.supply) (c.step_core.ensures.clean told)

-- WHAT WAS MADE AND NOTED

pub returns-in-Ok-clause-made : goal.returns-in-Ok-clause-made
returns-in-Ok-clause-made g c =
    let d = g.D.Disk in
    let once = subst (λ (o : Looked). StepsOnce d (g.S.Supplier.word c.args.gate.now.supply) c.args.me c.args.core.now c.step_core.new.core (Ok o)) c.in-Ok-Made.field-0-is c.in-Ok-Made.ensures in
    record { mid = c.step_core.new.core; stepped = once.made; behind = c.in-Ok.ensures.notes }

pub returns-in-Ok-clause-tries : goal.returns-in-Ok-clause-tries
returns-in-Ok-clause-tries g c =
    let d = g.D.Disk in
    let once = subst (λ (o : Looked). StepsOnce d (g.S.Supplier.word c.args.gate.now.supply) c.args.me c.args.core.now c.step_core.new.core (Ok o)) c.in-Ok-Made.field-0-is c.in-Ok-Made.ensures in
    adds_then c.args.core.now.noted.entries c.step_core.new.core.noted.entries c.keep_behind.new.core.noted.entries
    (step_untried d c.args.me c.args.core.now c.step_core.new.core c.in-Ok-Made.made.entry once.made) c.in-Ok.ensures.notes

pub returns-in-Err-keep_behind-clause-tries : goal.returns-in-Err-keep_behind-clause-tries
returns-in-Err-keep_behind-clause-tries g c =
    let d = g.D.Disk in
    let once = subst (λ (o : Looked). StepsOnce d (g.S.Supplier.word c.args.gate.now.supply) c.args.me c.args.core.now c.step_core.new.core (Ok o)) c.in-Ok-Made.field-0-is c.in-Ok-Made.ensures in
    tries_look c.in-Err-keep_behind.why c.args.core.now.noted.entries c.step_core.new.core.noted.entries c.keep_behind.new.core.noted.entries
    (step_untried d c.args.me c.args.core.now c.step_core.new.core c.in-Ok-Made.made.entry once.made) c.in-Err-keep_behind.ensures.notes

pub returns-in-Ok-Idle-clause-tries : goal.returns-in-Ok-Idle-clause-tries
returns-in-Ok-Idle-clause-tries g c =
    let d = g.D.Disk in
    let once = subst (λ (o : Looked). StepsOnce d (g.S.Supplier.word c.args.gate.now.supply) c.args.me c.args.core.now c.step_core.new.core (Ok o)) c.in-Ok-Idle.field-0-is c.in-Ok-Idle.ensures in
    adds_none c.args.core.now.noted.entries c.step_core.new.core.noted.entries (ap (λ (p : Parts g.row.D.Denot). p.noted.entries) (once.still c.in-Ok-Idle.why refl))

pub returns-in-Err-clause-tries : goal.returns-in-Err-clause-tries
returns-in-Err-clause-tries g c =
    tries_none c.in-Err.why c.args.core.now.noted.entries c.step_core.new.core.noted.entries (ap (λ (n : Noted). n.entries) c.in-Err.ensures.failed.noted)

pub returns-in-Ok-clause-faults : goal.returns-in-Ok-clause-faults
returns-in-Ok-clause-faults g c = no_faults (Made c.in-Ok-Made.made)

pub returns-in-Ok-Idle-clause-faults : goal.returns-in-Ok-Idle-clause-faults
returns-in-Ok-Idle-clause-faults g c = no_faults (Idle c.in-Ok-Idle.why)

pub returns-in-Err-keep_behind-clause-faults : goal.returns-in-Err-keep_behind-clause-faults
returns-in-Err-keep_behind-clause-faults g c =
    rose_behind g.D.Disk.faults c.args.core.now c.step_core.new.core c.keep_behind.new.core c.in-Err-keep_behind.why c.step_core.ensures.counts.later c.keep_behind.ensures.counts.later
    c.in-Err-keep_behind.ensures.stopped.cause

pub returns-in-Err-clause-faults : goal.returns-in-Err-clause-faults
returns-in-Err-clause-faults g c = rose_at g.D.Disk c.args.me c.args.core.now c.step_core.new.core c.in-Err.why c.in-Err.ensures.failed.cause
