-- A wish that is not due stays so, and steps left stay, while nobody writes the entity.
use Rattle.std.proofs.Common.{◌≡◌, ℕ, ◌⊎◌, inl, inr, ◌+◌, ◌-◌, Bool, true, false, not, ◌&&◌, ◌||◌, ◌==◌, if◌then◌else◌, List, [], ◌∷◌, ◌++◌, Option, Some, None, refl, sym, ap, subst, ◌∙◌, eqb-true}
use Rattle.std.specs.List.{list_any}
use Rattle.std.proofs.lemmas.Bool.{false≢true}
use Rattle.model_cut_laws.specs.base_types.declared.histories.Entry.{Entry}
use Rattle.model_cut_laws.specs.base_types.declared.histories.Event.TheVariants.{Birth, Step, Snap as SnapEvent, Stable, Tried}
use Rattle.model_cut_laws.specs.model_kernel.State.{Supply, KernelState}
use Rattle.model_cut_laws.specs.model_kernel.Scripts.{Script}
use Rattle.model_cut_laws.specs.model_kernel.Parts.{after_entry}
use Rattle.model_cut_laws.specs.model_kernel.Histories.{Policy, Run, event_of, writes, every_of, version_of, has_wish, is_full, is_due, may, May, goes_on, went_on, after_snap, asked_by, with_asked, locus_in, IsLegalFrom, IsLegalRun, start_run, run_after}
use Rattle.model_cut_laws.proofs.model_kernel_lemmas.Basics.{or_false_left, or_false_right}
use Rattle.model_cut_laws.proofs.model_kernel_lemmas.LegalRuns.{next_legal}
use Rattle.model_run_laws.proofs.Writing.{step_is, step_writes_own, step_writes_asked, entry_stays}
use Rattle.model_cut_laws.proofs.model_kernel_lemmas.StableCuts.{run_append}

-- what becomes full is less due
less_due : (h f g : Bool) → (h && not f) ≡ false → (h && not (f || g)) ≡ false
less_due false f g e = refl
less_due true true g e = refl
less_due true false g e = cc

same_due : (h k f f' g : Bool) → k ≡ h → f' ≡ f → (h && not f) ≡ false → (k && not (f' || g)) ≡ false
same_due h k f f' g p q e = rw (p, q) (less_due h f g e)

pub with_asked_at : (o : Option ℕ) (f : ℕ → Bool) (x : ℕ) → (o ≡ Some x → ⊥) → with_asked o f x ≡ f x
with_asked_at None f x other = refl
with_asked_at (Some y) f x other = elim (x == y) as (λ b. (x == y) ≡ b → (if b then true else f x) ≡ f x) [ true ↦ λ is. absurd (other (ap Some (sym (eqb-true x y is)))) | false ↦ λ _. refl ] refl

-- whom a set of flags names, or who is asked for
pub asked_or : (o : Option ℕ) (f : ℕ → Bool) (x : ℕ) → with_asked o f x ≡ true → (o ≡ Some x) ⊎ (f x ≡ true)
asked_or None f x h = inr h
asked_or (Some y) f x h =
    elim (x == y) as (λ b. (x == y) ≡ b → (if b then true else f x) ≡ true → (Some y ≡ Some x) ⊎ (f x ≡ true)) [
      | true ↦ λ at _. inl (ap Some (sym (eqb-true _ _ at)))
      | false ↦ λ _ h. inr h
    ] refl h

module _ (s : Supply) (policy : Policy) (script : Script) where
  pub due_stays : (r : Run) (e : Entry) (x : ℕ) → May s policy script r e → writes e x ≡ false → is_due policy r x ≡ false → is_due policy (goes_on s script r e) x ≡ false
  due_stays r e x m none calm =
      let after = after_entry (event_of s script) r.state e in
      let same : after x ≡ r.state x = entry_stays s policy script r.state e (next_legal s policy script r e m) x none in
      elim e.event as (λ ev. e.event ≡ ev → is_due policy (went_on s script r e ev) x ≡ false) [
        | Birth ↦ λ is.
            same_due (has_wish policy r x) _ (r.was_full x) _ _ (λ i. (not (none i) && r.by_step x) && policy (every_of (same i).cell) ((same i).version - r.newest x) || r.asked x) refl calm
        | Step ↦ λ is.
            let step = step_is s e.actor r.state e (subst (may s policy script r e) is m.1).4 in
            let asked = with_asked_at (asked_by e.answer (locus_in (r.state e.actor).cell)) r.asked x (λ h. false≢true (sym none ∙ step_writes_asked s e.actor r.state e x step h)) in
            same_due (has_wish policy r x) _ (r.was_full x) _ _ (λ i. (none i || r.by_step x) && policy (every_of (same i).cell) ((same i).version - r.newest x) || asked i) (λ i. not (none i) && r.was_full x) calm
        | SnapEvent ↦ λ is.
            elim (x == e.actor) as (λ b. ((if b then false else r.by_step x) && policy (every_of (r.state x).cell) (version_of r x - (if b then version_of r e.actor else r.newest x)) || (if b then false else r.asked x)) && not (r.was_full x || is_full (after_snap r e.actor) x) ≡ false) [
              | true ↦ refl
              | false ↦ less_due (has_wish policy r x) (r.was_full x) (is_full (after_snap r e.actor) x) calm
            ]
        | Stable ↦ λ is. refl
        | Tried ↦ λ is. calm
      ] refl

  due_over : (fs : List Entry) (r : Run) (x : ℕ) → IsLegalFrom s policy script r fs → list_any (λ e. writes e x) fs ≡ false → is_due policy r x ≡ false → is_due policy (run_after s script r fs) x ≡ false
  due_over [] r x legal none calm = calm
  due_over (e ∷ fs) r x legal none calm = due_over fs (goes_on s script r e) x legal.1 (or_false_right (writes e x) _ none) (due_stays r e x legal.0 (or_false_left (writes e x) _ none) calm)

  pub legal_back : (r : Run) (es fs : List Entry) → IsLegalFrom s policy script r (es ++ fs) → IsLegalFrom s policy script (run_after s script r es) fs
  legal_back r [] fs legal = legal
  legal_back r (e ∷ es) fs legal = legal_back (goes_on s script r e) es fs legal.1

  pub wish_stays : (w : KernelState) (es fs : List Entry) (x : ℕ) → IsLegalRun s policy w script (es ++ fs) → list_any (λ e. writes e x) fs ≡ false → is_due policy (run_after s script (start_run w) es) x ≡ false
      → is_due policy (run_after s script (start_run w) (es ++ fs)) x ≡ false
  wish_stays w es fs x legal none calm =
      subst (λ (r : Run). is_due policy r x ≡ false) (sym (run_append s policy script (start_run w) es fs)) (due_over fs (run_after s script (start_run w) es) x (legal_back (start_run w) es fs legal) none calm)

  -- STEPS LEFT

  steps_one : (r : Run) (e : Entry) (x : ℕ) → May s policy script r e → writes e x ≡ false → (goes_on s script r e).steps x ≡ r.steps x
  steps_one r e x m none =
      elim e.event as (λ ev. e.event ≡ ev → (went_on s script r e ev).steps x ≡ r.steps x) [
        | Birth ↦ λ is. refl
        | Step ↦ λ is.
            let own = step_writes_own s e.actor r.state e (step_is s e.actor r.state e (subst (may s policy script r e) is m.1).4) in
            elim (x == e.actor) as (λ b. (x == e.actor) ≡ b → (if b then r.steps e.actor + 1 else r.steps x) ≡ r.steps x) [
              | true ↦ λ at. absurd (false≢true (sym none ∙ ap (writes e) (eqb-true x e.actor at) ∙ own))
              | false ↦ λ _. refl
            ] refl
        | SnapEvent ↦ λ is. refl
        | Stable ↦ λ is. refl
        | Tried ↦ λ is. refl
      ] refl

  steps_over : (fs : List Entry) (r : Run) (x : ℕ) → IsLegalFrom s policy script r fs → list_any (λ e. writes e x) fs ≡ false → (run_after s script r fs).steps x ≡ r.steps x
  steps_over [] r x legal none = refl
  steps_over (e ∷ fs) r x legal none = steps_over fs (goes_on s script r e) x legal.1 (or_false_right (writes e x) _ none) ∙ steps_one r e x legal.0 (or_false_left (writes e x) _ none)

  pub steps_stay : (w : KernelState) (es fs : List Entry) (x : ℕ) → IsLegalRun s policy w script (es ++ fs) → list_any (λ e. writes e x) fs ≡ false
      → (run_after s script (start_run w) (es ++ fs)).steps x ≡ (run_after s script (start_run w) es).steps x
  steps_stay w es fs x legal none = ap (λ (r : Run). r.steps x) (run_append s policy script (start_run w) es fs) ∙ steps_over fs (run_after s script (start_run w) es) x (legal_back (start_run w) es fs legal) none
