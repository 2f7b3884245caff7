-- What has a wish has changed since its newest commit.
use Rattle.std.proofs.Common.{◌≡◌, ℕ, ◌+◌, ◌≤◌, ◌<◌, Bool, true, false, not, ◌||◌, ◌==◌, if◌then◌else◌, List, [], ◌∷◌, refl, ap, subst, arith, inl, inr, eqb-true}
use Rattle.std.proofs.lemmas.Bool.{false≢true}
use Rattle.base_types.specs.declared.histories.Entry.{Entry}
use Rattle.base_types.specs.declared.histories.Event.TheVariants.{Birth, Step, Snap as SnapEvent, Stable, Tried}
use Rattle.model_run_laws.specs.model_kernel.State.{Supply, KernelState}
use Rattle.model_run_laws.specs.model_kernel.Scripts.{Script}
use Rattle.model_run_laws.specs.model_kernel.Words.{put}
use Rattle.model_run_laws.specs.model_kernel.Parts.{after_entry}
use Rattle.model_run_laws.specs.model_kernel.Histories.{Policy, Run, event_of, writes, asked_by, locus_in, version_of, may, May, goes_on, went_on, IsLegalFrom, start_run, run_after}
use Rattle.model_run_laws.proofs.model_kernel_lemmas.LegalRuns.{event_of_local, event_of_stamped, next_legal}
use Rattle.model_run_laws.proofs.model_kernel_lemmas.StableCuts.{versions_rise}
use Rattle.model_run_laws.proofs.Tellings.{written_rises}
use Rattle.model_run_laws.proofs.Wishes.{asked_or}
use Rattle.model_run_laws.proofs.Writing.{step_is, step_writes_asked}
use Rattle.model_run_laws.proofs.model_kernel_lemmas.Basics.{and_right}

pub record IsFresh (r : Run) : Type 0 where
  pub low : (x : ℕ) → r.newest x ≤ version_of r x
  pub by_step : (x : ℕ) → r.by_step x ≡ true → r.newest x < version_of r x
  pub asked : (x : ℕ) → r.asked x ≡ true → r.newest x < version_of r x

pub fresh_start : (w : KernelState) → IsFresh (start_run w)
fresh_start w = record { low = λ x. omega arith; by_step = λ x e. absurd (false≢true e); asked = λ x e. absurd (false≢true e) }

module _ (s : Supply) (policy : Policy) (script : Script) where
  rises : (r : Run) (e : Entry) → May s policy script r e → (x : ℕ) → version_of r x ≤ (after_entry (event_of s script) r.state e x).version
  rises r e m x = versions_rise (event_of s script) (event_of_local s policy script) (event_of_stamped s policy script) r.state e (next_legal s policy script r e m) x

  rises_written : (r : Run) (e : Entry) → May s policy script r e → (x : ℕ) → writes e x ≡ true → (after_entry (event_of s script) r.state e x).version ≡ version_of r x + 1
  rises_written r e m x = written_rises s policy script r.state e (next_legal s policy script r e m) x

  pub fresh_next : (r : Run) (e : Entry) → May s policy script r e → IsFresh r → IsFresh (goes_on s script r e)
  fresh_next r e m k =
      elim e.event as (λ ev. e.event ≡ ev → IsFresh (went_on s script r e ev)) [
        | Birth ↦ λ is. record {
          low = λ x. (let a = k.low x in let b = rises r e m x in omega (arith, a, b));
          by_step = λ x h. (let a = k.by_step x (and_right (not (writes e x)) (r.by_step x) h) in let b = rises r e m x in omega (arith, a, b));
          asked = λ x h. (let a = k.asked x h in let b = rises r e m x in omega (arith, a, b));
        }
        | Step ↦ λ is. record {
          low = λ x. (let a = k.low x in let b = rises r e m x in omega (arith, a, b));
          by_step = λ x h. elim (writes e x) as (λ b. writes e x ≡ b → (b || r.by_step x) ≡ true → r.newest x < (after_entry (event_of s script) r.state e x).version) [
            | true ↦ λ wrote _. (let a = k.low x in let b = rises_written r e m x wrote in omega (arith, a, b))
            | false ↦ λ _ h. (let a = k.by_step x h in let b = rises r e m x in omega (arith, a, b))
          ] refl h;
          asked = λ x h. elim (asked_or (asked_by e.answer (locus_in (r.state e.actor).cell)) r.asked x h) as (λ _. r.newest x < (after_entry (event_of s script) r.state e x).version) [
            | inl names ↦ (
                let step = step_is s e.actor r.state e (subst (may s policy script r e) is m.1).4 in
                let a = k.low x in
                let b = rises_written r e m x (step_writes_asked s e.actor r.state e x step names) in
                omega (arith, a, b))
            | inr h ↦ (let a = k.asked x h in let b = rises r e m x in omega (arith, a, b))
          ];
        }
        | SnapEvent ↦ λ is. record {
          low = λ x. snap_low r e.actor x (k.low x);
          by_step = λ x h. snap_flag r e.actor x r.by_step (k.by_step x) h;
          asked = λ x h. snap_flag r e.actor x r.asked (k.asked x) h;
        }
        | Stable ↦ λ is. record { low = λ x. omega arith; by_step = λ x h. absurd (false≢true h); asked = λ x h. absurd (false≢true h) }
        | Tried ↦ λ is. record { low = k.low; by_step = k.by_step; asked = k.asked }
      ] refl
    where
      snap_low : (r : Run) (y x : ℕ) → r.newest x ≤ version_of r x → put r.newest y (version_of r y) x ≤ version_of r x
      snap_low r y x low =
          elim (x == y) as (λ b. (x == y) ≡ b → (if b then version_of r y else r.newest x) ≤ version_of r x) [
            | true ↦ λ at. (let same : version_of r x ≡ version_of r y = ap (version_of r) (eqb-true _ _ at) in omega (arith, same))
            | false ↦ λ _. low
          ] refl

      snap_flag : (r : Run) (y x : ℕ) (f : ℕ → Bool) → (f x ≡ true → r.newest x < version_of r x) → put f y false x ≡ true → put r.newest y (version_of r y) x < version_of r x
      snap_flag r y x f k h =
          elim (x == y) as (λ b. (if b then false else f x) ≡ true → (if b then version_of r y else r.newest x) < version_of r x) [
            | true ↦ λ h. absurd (false≢true h)
            | false ↦ λ h. k h
          ] h

  pub fresh_over : (es : List Entry) (r : Run) → IsLegalFrom s policy script r es → IsFresh r → IsFresh (run_after s script r es)
  fresh_over [] r legal k = k
  fresh_over (e ∷ es) r legal k = fresh_over es (goes_on s script r e) legal.1 (fresh_next r e legal.0 k)
