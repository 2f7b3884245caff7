-- The commits of a history, entry by entry.
use Rattle.std.proofs.Common.{◌≡◌, ℕ, zero, suc, ◌<◌, Bool, nat_lt, cond, List, [], ◌∷◌, ◌++◌, filter, option_to_list, refl, sym, ap, ◌∙◌, arith}
use Rattle.std.proofs.lemmas.List.{append-nil}
use Rattle.std.proofs.lemmas.List.Elements.{filter-append}
use Rattle.base_types.specs.Edges.{upto}
use Rattle.base_types.specs.declared.histories.Entry.{Entry}
use Rattle.base_types.specs.declared.histories.Event.TheVariants.{Birth, Step, Snap as SnapEvent, Stable, Tried}
use Rattle.model_run_laws.specs.model_kernel.State.{Supply, KernelState}
use Rattle.model_run_laws.specs.model_kernel.Scripts.{Script}
use Rattle.model_run_laws.specs.model_kernel.Fronts.{tried_commits}
use Rattle.model_run_laws.specs.model_kernel.Histories.{Policy, Run, event_of, chosen_commits, commits_of, commits_in, has_changed, goes_on, went_on, IsLegalRun, start_run, run_after}
use Rattle.model_run_laws.specs.model_kernel.Parts.{after}
use Rattle.model_run_laws.proofs.model_kernel_lemmas.LegalRuns.{state_after}
use Rattle.model_run_rules.specs.Commits.{changed_since, commits_now, new_commits}
use Rattle.model_run_rules.specs.Newest.{newest_in}
use Rattle.model_run_rules.proofs.Wishes.{newest_told}
use Rattle.model_run_laws.proofs.model_kernel_lemmas.StableCuts.{run_append}

-- tests that agree below n pick the same
same_picked : (f g : ℕ → Bool) (n : ℕ) → ((x : ℕ) → x < n → f x ≡ g x) → filter f (upto n) ≡ filter g (upto n)
same_picked f g zero same = refl
same_picked f g (suc n) same =
    let low : filter f (upto n) ≡ filter g (upto n) = same_picked f g n (λ x lt. same x (omega arith)) in
    let last : filter f (n ∷ []) ≡ filter g (n ∷ []) = ap (λ b. cond b (n ∷ []) []) (same n (omega arith)) in
    filter-append f (upto n) (n ∷ []) ∙ (λ i. low i ++ last i) ∙ sym (filter-append g (upto n) (n ∷ []))

commits_same : (r : Run) (xs : List ℕ) → commits_of r xs ≡ chosen_commits r.state xs
commits_same r [] = refl
commits_same r (x ∷ xs) = ap (λ cs. record { entity = x; version = (r.state x).version; stamp = (r.state x).stamp } ∷ cs) (commits_same r xs)

module _ (s : Supply) (policy : Policy) (script : Script) (w : KernelState) (es : List Entry) where
  now : (xs : List ℕ) → commits_of (run_after s script (start_run w) es) xs ≡ commits_now s script w es xs
  now xs = commits_same (run_after s script (start_run w) es) xs ∙ ap (λ (v : KernelState). chosen_commits v xs) (state_after s policy script (start_run w) es)

  whole : (e : Entry) → run_after s script (start_run w) (es ++ e ∷ []) ≡ goes_on s script (run_after s script (start_run w) es) e
  whole e = run_append s policy script (start_run w) es (e ∷ [])

  changed_same : IsLegalRun s policy w script es → filter (has_changed (run_after s script (start_run w) es)) (upto 64) ≡ changed_since (after (event_of s script) w es) (commits_in s script w es)
  changed_same legal =
      let r = run_after s script (start_run w) es in
      same_picked (has_changed r) (λ x. nat_lt (newest_in r.commits x) (after (event_of s script) w es x).version) 64
      (λ x low i. nat_lt (newest_told s policy script x low w es legal i) (state_after s policy script (start_run w) es i x).version)

  pub commits_told : (e : Entry) → IsLegalRun s policy w script es → commits_in s script w (es ++ e ∷ []) ≡ commits_in s script w es ++ new_commits s script w es e.actor e.event
  commits_told e legal =
      let r = run_after s script (start_run w) es in
      ap (λ (u : Run). u.commits) (whole e) ∙ elim e.event as (λ ev. (went_on s script r e ev).commits ≡ r.commits ++ new_commits s script w es e.actor ev) [
        | Birth ↦ sym (append-nil r.commits)
        | Step ↦ sym (append-nil r.commits)
        | SnapEvent ↦ ap (λ cs. r.commits ++ cs) (now (e.actor ∷ []))
        | Stable ↦ ap (λ cs. r.commits ++ cs) (now (filter (has_changed r) (upto 64)) ∙ ap (commits_now s script w es) (changed_same legal))
        | Tried ↦ sym (append-nil r.commits)
      ]

  pub tried_told : (e : Entry) → e.event ≡ Tried → tried_commits s script w (es ++ e ∷ []) ≡ commits_in s script w es ++ commits_now s script w es (e.actor ∷ [])
  tried_told e is =
      let r = run_after s script (start_run w) es in
      ap (λ (u : Run). u.commits ++ option_to_list u.tried) (whole e ∙ ap (went_on s script r e) is) ∙ ap (λ cs. r.commits ++ cs) (now (e.actor ∷ []))
