use Rattle.std.proofs.Common.{◌≡◌, Some, Err, sym, ap, subst, ◌∙◌}
use Rattle.std.specs.Prelude.{MatchBool, ⊤}
use Rattle.kernel_run_facts.specs.kernel_commit_facts.Parts.{Noted}
use Rattle.kernel_run_facts.specs.kernel_commits.Telling.{Tells, TriesByAnswer, told}
use Rattle.kernel_run_facts.specs.kernel_commits.declared.stopping.Stop.{Stop}
use Rattle.kernel_run_facts.proofs.kernel_commits_lemmas.Telling.{adds_none}
use Rattle.kernel_run_facts.specs.Running.{IsCauseOf}
use Rattle.kernel_run_facts.proofs.Watched.{cut_by_read, lent_along}
use Rattle.kernel_runs.proofs.watching.ask.Goals as goal

pub returns-in-Some-clause-ends : goal.returns-in-Some-clause-ends
returns-in-Some-clause-ends g c =
    let is : c.after-goes_on.new.kernel.stop ≡ Some c.in-Some.why = sym c.stopped.ensures ∙ c.in-Some.is in
    let read = (c.after-goes_on.ensures.lent.stop c.in-Some.why is).0 in
    subst (λ (s : Stop). Tells {T = ⊤} (Err s) c.after-goes_on.new.kernel.stop) (sym (c.told.ensures ∙ ap told read)) (is ∙ ap Some read)

pub returns-in-Some-clause-caused : goal.returns-in-Some-clause-caused
returns-in-Some-clause-caused g c = λ policy.
    let is : c.after-goes_on.new.kernel.stop ≡ Some c.in-Some.why = sym c.stopped.ensures ∙ c.in-Some.is in
    let read = c.after-goes_on.ensures.lent.stop c.in-Some.why is in
    subst (IsCauseOf g.D.Disk policy c.args.kernel.now.parts c.after-goes_on.new.kernel.parts) (sym (c.told.ensures ∙ ap told read.0)) read.1

pub returns-in-Some-clause-tries : goal.returns-in-Some-clause-tries
returns-in-Some-clause-tries g c =
    let is : c.after-goes_on.new.kernel.stop ≡ Some c.in-Some.why = sym c.stopped.ensures ∙ c.in-Some.is in
    let read = (c.after-goes_on.ensures.lent.stop c.in-Some.why is).0 in
    let same = ap (λ (n : Noted). n.entries) c.after-goes_on.ensures.lent.notes in
    subst (λ (s : Stop). TriesByAnswer {T = ⊤} (Err s) c.args.kernel.now.parts.noted.entries c.after-goes_on.new.kernel.parts.noted.entries) (sym (c.told.ensures ∙ ap told read))
    (adds_none c.args.kernel.now.parts.noted.entries c.after-goes_on.new.kernel.parts.noted.entries same)

pub returns-in-Some-clause-knows : goal.returns-in-Some-clause-knows
returns-in-Some-clause-knows g c = λ tells b first looked es knows next begins along.
    cut_by_read g.D.Disk (g.W.Watcher.watches c.after-goes_on.new.self) (g.W.Watcher.leaves c.after-goes_on.new.self) b first looked es c.args.kernel.now c.after-goes_on.new.kernel c.after-goes_on.result tells
    c.after-goes_on.ensures.lent next begins along (c.after-goes_on.ensures.knows tells b es knows (record { lives = along.lives; next = next })) c.in-Some.why (sym c.stopped.ensures ∙ c.in-Some.is)

pub returns-then-goes_on-clause-tries : goal.returns-then-goes_on-clause-tries
returns-then-goes_on-clause-tries g c =
    adds_none c.args.kernel.now.parts.noted.entries c.after-goes_on.new.kernel.parts.noted.entries (ap (λ (n : Noted). n.entries) c.after-goes_on.ensures.lent.notes)

pub returns-then-goes_on-clause-knows : goal.returns-then-goes_on-clause-knows
returns-then-goes_on-clause-knows g c = λ tells b first looked es knows next begins along.
    let now = c.after-goes_on.new.kernel.parts.noted.entries in
    let w = c.after-goes_on.new.self in
    record {
      along = lent_along g.D.Disk b looked c.args.kernel.now c.after-goes_on.new.kernel tells c.after-goes_on.ensures.lent along;
      knows = subst (λ goes_on. MatchBool goes_on (g.W.Watcher.watches w b now) (g.W.Watcher.leaves w b now)) c.if-goes_on.true (c.after-goes_on.ensures.knows tells b es knows (record { lives = along.lives; next = next }));
    }

pub returns-else-goes_on-clause-tries : goal.returns-else-goes_on-clause-tries
returns-else-goes_on-clause-tries g c =
    adds_none c.args.kernel.now.parts.noted.entries c.after-goes_on.new.kernel.parts.noted.entries (ap (λ (n : Noted). n.entries) c.after-goes_on.ensures.lent.notes)

pub returns-else-goes_on-clause-knows : goal.returns-else-goes_on-clause-knows
returns-else-goes_on-clause-knows g c = λ tells b first looked es knows next begins along.
    let now = c.after-goes_on.new.kernel.parts.noted.entries in
    let w = c.after-goes_on.new.self in
    record {
      looked = looked;
      begins = begins;
      along = lent_along g.D.Disk b looked c.args.kernel.now c.after-goes_on.new.kernel tells c.after-goes_on.ensures.lent along;
      knows = subst (λ goes_on. MatchBool goes_on (g.W.Watcher.watches w b now) (g.W.Watcher.leaves w b now)) c.if-goes_on.false (c.after-goes_on.ensures.knows tells b es knows (record { lives = along.lives; next = next }));
    }
