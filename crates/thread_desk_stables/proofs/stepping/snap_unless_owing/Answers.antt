use Rattle.std.proofs.Common.{◌≡◌, true, false, [], Ok, refl, sym, subst, ◌∙◌}
use Rattle.std.specs.Prelude.{Result, ⊤}
use Rattle.std.proofs.lemmas.Bool.{true≢false}
use Rattle.thread_stables.specs.kernel_core_facts.kernel_commit_facts.Parts.{parts_of}
use Rattle.thread_stables.specs.kernel_core_facts.kernel_invariant.declared.stopping.Stopped.{Stopped}
use Rattle.thread_stables.specs.kernel_core_facts.model_serial.Serial.{written_in}
use Rattle.thread_stables.specs.thread_commits.Snapping.{SnapsWritten}
use Rattle.thread_stables.proofs.thread_commits_lemmas.Adding.{among_still}
use Rattle.thread_stables.proofs.thread_looks_lemmas.After.{look_ended, look_stopped}
use Rattle.thread_desk_stables.proofs.stepping.snap_unless_owing.Goals as goal

pub returns-then-owes_stable-clause-adds : goal.returns-then-owes_stable-clause-adds
returns-then-owes_stable-clause-adds g c = among_still [] c.args.notes.now.entries c.args.notes.now.entries refl

pub returns-then-owes_stable-clause-looks : goal.returns-then-owes_stable-clause-looks
returns-then-owes_stable-clause-looks g c supply me old steady step = record {
  owing = λ yes. step;
  looks = λ no. absurd (true≢false (sym c.if-owes_stable.true ∙ (c.owes_stable.ensures ∙ no)));
}

pub returns-in-Ok-clause-adds : goal.returns-in-Ok-clause-adds
returns-in-Ok-clause-adds g c = c.snap_touched_one.ensures.snaps.adds

pub returns-in-Ok-clause-looks : goal.returns-in-Ok-clause-looks
returns-in-Ok-clause-looks g c supply me old steady step =
    let d = g.D.Disk in
    let policy = g.P.Policy.wish c.args.gate.now.policy in
    let mid = parts_of c.args.store.now c.args.all.now c.args.notes.now in
    let new = parts_of c.snap_touched_one.new.store c.snap_touched_one.new.all c.snap_touched_one.new.notes in
    let free = sym c.owes_stable.ensures ∙ c.if-owes_stable.false in
    record {
      owing = λ yes. absurd (true≢false (sym yes ∙ free));
      looks = λ no. look_ended d supply policy me old mid c.args.made step free new
          (subst (λ (q : Result ⊤ Stopped). SnapsWritten d policy (written_in c.args.made.entry.touched) q mid new) c.in-Ok.is c.snap_touched_one.ensures.snaps);
    }

pub returns-in-Err-clause-adds : goal.returns-in-Err-clause-adds
returns-in-Err-clause-adds g c = c.snap_touched_one.ensures.snaps.adds

pub returns-in-Err-clause-looks : goal.returns-in-Err-clause-looks
returns-in-Err-clause-looks g c supply me old steady step =
    let d = g.D.Disk in
    let policy = g.P.Policy.wish c.args.gate.now.policy in
    let mid = parts_of c.args.store.now c.args.all.now c.args.notes.now in
    let new = parts_of c.snap_touched_one.new.store c.snap_touched_one.new.all c.snap_touched_one.new.notes in
    let free = sym c.owes_stable.ensures ∙ c.if-owes_stable.false in
    record {
      owing = λ yes. absurd (cc yes);
      looks = λ no. look_stopped d supply policy me old mid c.args.made step free new c.in-Err.why
          (subst (λ (q : Result ⊤ Stopped). SnapsWritten d policy (written_in c.args.made.entry.touched) q mid new) c.in-Err.is c.snap_touched_one.ensures.snaps);
    }
