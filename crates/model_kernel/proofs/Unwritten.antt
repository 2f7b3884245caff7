-- What no entry writes stays.
use Rattle.std.proofs.Common.{◌≡◌, ℕ, true, false, ◌&&◌, ◌==◌, List, [], ◌∷◌, ◌++◌, Option, Some, None, refl, sym, ap, subst, ◌∙◌, eq-eqb, inl, inr}
use Rattle.std.specs.List.{list_any}
use Rattle.std.proofs.lemmas.Bool.{false≢true}
use Rattle.base_types.specs.declared.histories.Entry.{Entry}
use Rattle.model_kernel.specs.State.{Supply, EntityState, KernelState}
use Rattle.model_kernel.specs.Scripts.{Script}
use Rattle.model_kernel.specs.LocalEvents.{touch_at, IsLocal}
use Rattle.model_kernel.specs.Parts.{after_entry, after, IsNext, IsPlayed}
use Rattle.model_kernel.specs.Vectors.{IsStamped}
use Rattle.model_kernel.specs.Histories.{Policy, IsLegalRun, event_of, writes, start_run}
use Rattle.model_kernel.proofs.Basics.{both, or_false_left, or_false_right}
use Rattle.model_kernel.proofs.Replay.{at_entity, any_at}
use Rattle.model_kernel.proofs.Covering.{Is_next, is_next}
use Rattle.model_kernel.proofs.LegalRuns.{event_of_local, event_of_stamped, legal_played}

module _ (act : Entry → KernelState → Option (Entry × KernelState)) (local : (e : Entry) → IsLocal (λ (b : EntityState). b.version) (act e)) (stamped : (e : Entry) → IsStamped (act e)) where
  pub stays_by : (e : Entry) (w : KernelState) (r : Entry × KernelState) → act e w ≡ Some r → (x : ℕ) → writes r.0 x ≡ false → r.1 x ≡ w x
  stays_by e w r is x none =
      elim (touch_at r.0.touched x) as (λ o. touch_at r.0.touched x ≡ o → r.1 x ≡ w x) [
        | None ↦ λ f. (local e).stays w r is x f
        | Some t ↦ λ f. elim t.wrote as (λ b. t.wrote ≡ b → r.1 x ≡ w x) [
          | true ↦ λ wrote.
              let some = any_at (λ t. t.entity == x && t.wrote) r.0.touched x t f (both _ _ (eq-eqb _ _ (at_entity r.0.touched x t f)) wrote) in
              absurd (false≢true (sym none ∙ some))
          | false ↦ λ read. ((local e).reads w r is x t f read).0
        ] refl
      ] refl

  pub stays : (w : KernelState) (e : Entry) → IsNext act w e → (x : ℕ) → writes e x ≡ false → after_entry act w e x ≡ w x
  unfolding Is_next
  stays w e next x none =
      elim (is_next (λ _. 0) act local stamped w e next) as (λ _. after_entry act w e x ≡ w x) [
        | inl r ↦ subst (λ (v : KernelState). v x ≡ w x) (sym r.3) (stays_by e w r.0 r.1 x (ap (λ (k : Entry). writes k x) r.2 ∙ none))
        | inr r ↦ (λ i. r.1 i x)
      ]

  stays_over : (fs : List Entry) (w : KernelState) → IsPlayed act w fs → (x : ℕ) → list_any (λ e. writes e x) fs ≡ false → after act w fs x ≡ w x
  stays_over [] w played x none = refl
  stays_over (e ∷ fs) w played x none = stays_over fs (after_entry act w e) played.1 x (or_false_right _ _ none) ∙ stays w e played.0 x (or_false_left _ _ none)

  -- over the end of a history
  pub stays_after : (es fs : List Entry) (w : KernelState) → IsPlayed act w (es ++ fs) → (x : ℕ) → list_any (λ e. writes e x) fs ≡ false → after act w (es ++ fs) x ≡ after act w es x
  stays_after [] fs w played x none = stays_over fs w played x none
  stays_after (e ∷ es) fs w played x none = stays_after es fs (after_entry act w e) played.1 x none

-- of a legal run
pub legal_stays : (s : Supply) (policy : Policy) (script : Script) (w : KernelState) (es fs : List Entry) (x : ℕ) → IsLegalRun s policy w script (es ++ fs) → list_any (λ e. writes e x) fs ≡ false
    → after (event_of s script) w (es ++ fs) x ≡ after (event_of s script) w es x
legal_stays s policy script w es fs x legal none = stays_after (event_of s script) (event_of_local s policy script) (event_of_stamped s policy script) es fs w (legal_played s policy script (start_run w) (es ++ fs) legal) x none
