use Rattle.std.proofs.Common.{◌≡◌, ◌<◌, ◌++◌, ℕ, List, ap, sym, subst, ◌∙◌}
use Rattle.base_types.specs.declared.histories.Entry.{Entry}
use Rattle.script_types.specs.model_kernel.Histories.{IsLegalRun}
use Rattle.kernel_runs.specs.model_serial.Serial.{opening}
use Rattle.kernel_runs.specs.kernel_invariant.Beginnings.{BeginsRight, completed}
use Rattle.kernel_runs.specs.kernel_run_facts.Alongs.{ComesNext}
use Rattle.model_new_commits.specs.model_run_rules.Newest.{newest_in}
use Rattle.model_new_commits.proofs.model_run_rules_lemmas.Wishes.{newest_told}
use Rattle.model_new_commits.specs.Found.{AreFound}
use Rattle.model_new_commits.proofs.Behind.{behind_births, behind_look, behind_nothing}
use Rattle.kernel_watchers.proofs.finding.shown_commits_law.Goals as goal

pub returns-clause-opened : goal.returns-clause-opened
returns-clause-opened g c b known begins knows = behind_nothing b.supply b.script b.state begins.script begins.names begins.sound.sound known knows

pub returns-clause-shown : goal.returns-clause-shown
returns-clause-shown g c b es k known shows knows = by shows.next.all shows.next.next shows.next.is
  where
    begins : BeginsRight b
    begins = shows.lives.live.running.begins

    by : (all : List Entry) → ComesNext b es all → k.parts.noted.entries ≡ es ++ all → AreFound known (completed b es) (completed b k.parts.noted.entries)
    by all (ComesNext.Births none same) is =
        subst (λ (new : List Entry). AreFound known (completed b es) (completed b new)) (sym (is ∙ ap (λ (old : List Entry). old ++ all) none ∙ same))
        (subst (λ (old : List Entry). AreFound known (completed b old) (completed b (opening b.supply b.script b.state))) (sym none)
        (behind_births b.supply b.script b.state begins.script begins.names begins.sound.sound known (subst (λ (old : List Entry). (x : ℕ) → x < 64 → known x ≡ newest_in (completed b old) x) none knows)))
    by all (ComesNext.Look looked l was same) is =
        let whole = is ∙ ap (λ (more : List Entry). es ++ more) same in
        subst (λ (new : List Entry). AreFound known (completed b es) (completed b new)) (sym whole)
        (behind_look b.supply b.policy b.script b.state begins.script begins.names begins.sound.sound known es l (subst (IsLegalRun b.supply b.policy b.state b.script) whole shows.lives.live.running.legal) knows)

pub returns-clause-cells : goal.returns-clause-cells
returns-clause-cells g c b k x lives low =
    let r = lives.live.running in
    ap (λ (f : ℕ → ℕ). f x) r.follows.newest ∙ newest_told b.supply b.policy b.script x low b.state k.parts.noted.entries r.legal
