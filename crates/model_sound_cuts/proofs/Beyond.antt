-- From number 64 on nothing is written, and nothing has a wish.
use Rattle.std.proofs.Common.{◌≡◌, ℕ, ◌≤◌, Bool, true, false, ◌&&◌, ◌||◌, List, [], ◌∷◌, refl, ap, ◌∙◌, inl}
use Rattle.std.specs.List.{list_any}
use Rattle.base_types.specs.declared.histories.Entry.{Entry}
use Rattle.model_run_rules.specs.model_kernel.Histories.{AllBelow64, IsLegalFrom, Policy, Run, goes_on, has_wish, run_after, start_run, writes}
use Rattle.model_run_rules.specs.model_kernel.Scripts.{Script}
use Rattle.model_run_rules.specs.model_kernel.State.{KernelState, Supply}
use Rattle.model_run_rules.specs.model_run_laws.StepEntries.{is_step}
use Rattle.model_run_rules.specs.Wishes.{steps_on}
use Rattle.model_sound_states.proofs.model_sound_runs_lemmas.Lengths.{IsBudgeted, entry_pays, not_written}
use Rattle.model_sound_states.proofs.model_sound_runs_lemmas.Standing.{IsStanding, legal_below, standing_next}
use Rattle.model_sound_cuts.specs.Runs.{IsSoundRun}

no_step : (b c : Bool) → c ≡ false → (b && c) ≡ false
no_step true c none = none
no_step false c none = refl

no_wish : (a b c : Bool) → a ≡ false → c ≡ false → (a && b || c) ≡ false
no_wish a b c none less = ap (λ t. t && b || c) none ∙ less

module _ (s : Supply) (policy : Policy) (script : Script) (w : KernelState) (es : List Entry) (k : IsSoundRun s policy script w es) (x : ℕ) (far : 64 ≤ x) where
  none_step : (fs : List Entry) → AllBelow64 fs → list_any (steps_on x) fs ≡ false
  none_step [] low = refl
  none_step (e ∷ fs) low = ap (λ b. b || list_any (steps_on x) fs) (no_step (is_step e.event) (writes e x) (not_written e.touched x (low.0 x far))) ∙ none_step fs low.1

  pub no_steps : list_any (steps_on x) es ≡ false
  no_steps = none_step es (legal_below s policy script k.rules w es k.names k.sound.sound k.legal)

  budgeted : (fs : List Entry) (r : Run) → IsLegalFrom s policy script r fs → IsStanding script r → IsBudgeted r → IsBudgeted (run_after s script r fs)
  budgeted [] r legal stands b = b
  budgeted (e ∷ fs) r legal stands b =
      budgeted fs (goes_on s script r e) legal.1 (standing_next s policy script k.rules r e legal.0 stands) (entry_pays s policy script k.rules r e legal.0 stands b).1

  pub no_wishes : has_wish policy (run_after s script (start_run w) es) x ≡ false
  no_wishes =
      let r = run_after s script (start_run w) es in
      let none = (budgeted es (start_run w) k.legal (record { sound = k.sound.sound; kinds = λ _. k.names }) (record { calm = inl refl; high = λ x h. (refl, refl) })).high x far in
      no_wish (r.by_step x) _ (r.asked x) none.0 none.1
