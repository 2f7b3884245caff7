-- Clocks go on as an event joins them.
use Rattle.std.proofs.Common.{◌≡◌, ℕ, ◌<◌, ◌≤◌, Bool, true, false, ◌&&◌, ◌==◌, if◌then◌else◌, max, List, [], ◌∷◌, Some, None, refl, sym, ap, subst, ◌∙◌, arith, eqb-true, eq-eqb, inl, inr}
use Rattle.std.specs.List.{list_any}
use Rattle.std.proofs.lemmas.Bool.{false≢true}
use Rattle.base_types.specs.declared.histories.Entry.{Entry}
use Rattle.base_types.specs.declared.histories.Touch.{Touch}
use Rattle.plain_runs.specs.model_kernel.Changes.{joined}
use Rattle.plain_runs.specs.model_kernel.Histories.{Policy, Run, event_of, writes}
use Rattle.plain_runs.specs.model_kernel.LocalEvents.{touch_at}
use Rattle.plain_runs.specs.model_kernel.Parts.{IsNext, after_entry}
use Rattle.plain_runs.specs.model_kernel.Scripts.{Script}
use Rattle.plain_runs.specs.model_kernel.State.{KernelState, Supply}
use Rattle.plain_runs.proofs.model_kernel_lemmas.Basics.{and_left, and_right}
use Rattle.plain_runs.proofs.model_kernel_lemmas.Covering.{Is_next, found, is_next}
use Rattle.plain_runs.proofs.model_kernel_lemmas.LegalRuns.{event_of_local, event_of_stamped}
use Rattle.plain_runs.proofs.model_kernel_lemmas.Replay.{at_entity}
use Rattle.model_run_rules.proofs.model_run_laws_lemmas.Writing.{entry_stays}
use Rattle.trace_state.specs.Clocks.{clock_at, joined_in}
use Rattle.trace_state.specs.Flags.{wrote_in}
use Rattle.trace_state.specs.declared.clocks.Clocks.{Clocks}
use Rattle.trace_step_facts.specs.Keeping.{HasClocks}

-- a touched number is one of those below 64
pub touch_low : (t : Touch) (ts : List Touch) → ((x : ℕ) → 64 ≤ x → touch_at (t ∷ ts) x ≡ None) → t.entity < 64
touch_low t ts low =
    let here : touch_at (t ∷ ts) t.entity ≡ Some t = ap (λ b. if b then Some t else touch_at ts t.entity) (eq-eqb t.entity t.entity refl) in
    below (λ h. apart (sym (low t.entity h) ∙ here))
  where
    apart : None ≡ Some t → ⊥
    apart e = cc

    below : (64 ≤ t.entity → ⊥) → t.entity < 64
    below h = grind arith

pub rest_low : (t : Touch) (ts : List Touch) → ((x : ℕ) → 64 ≤ x → touch_at (t ∷ ts) x ≡ None) → (x : ℕ) → 64 ≤ x → touch_at ts x ≡ None
rest_low t ts low x h =
    elim (t.entity == x) as (λ b. (if b then Some t else touch_at ts x) ≡ None → touch_at ts x ≡ None) [
      | true ↦ λ e. absurd (apart e)
      | false ↦ λ e. e
    ] (low x h)
  where
    apart : Some t ≡ None → ⊥
    apart e = cc

joined_same : (clocks : ℕ → ℕ → ℕ) (w : KernelState) (ts : List Touch) → ((x y : ℕ) → x < 64 → clocks x y ≡ (w x).stamp y) → ((x : ℕ) → 64 ≤ x → touch_at ts x ≡ None)
    → (y : ℕ) → joined_in clocks ts y ≡ joined w ts y
joined_same clocks w [] same low y = refl
joined_same clocks w (t ∷ ts) same low y =
    let here = same t.entity y (touch_low t ts low) in
    let rest = joined_same clocks w ts same (rest_low t ts low) y in
    λ i. max (max (here i) (if t.entity == y then t.version else 0)) (rest i)

module _ (s : Supply) (policy : Policy) (script : Script) where
  -- what an entry writes has the joined clock
  joined_clock : (w : KernelState) (e : Entry) → IsNext (event_of s script) w e → (x y : ℕ) → writes e x ≡ true → (after_entry (event_of s script) w e x).stamp y ≡ joined w e.touched y
  unfolding Is_next
  joined_clock w e next x y wrote =
      let act = event_of s script in
      let local = event_of_local s policy script in
      let stamped = event_of_stamped s policy script in
      elim (is_next (λ _. 0) act local stamped w e next) as (λ _. (after_entry act w e x).stamp y ≡ joined w e.touched y) [
        | inr none ↦ absurd (false≢true (ap (λ ts. list_any (λ (t : Touch). t.entity == x && t.wrote) ts) (sym none.0) ∙ wrote))
        | inl r ↦ (
            let test = λ (t : Touch). t.entity == x && t.wrote in
            let some : list_any test r.0.0.touched ≡ true = ap (λ (k : Entry). writes k x) r.2 ∙ wrote in
            let f = found test r.0.0.touched ((stamped e).rising w r.0 r.1) some in
            let same : f.0 ≡ x = sym (at_entity r.0.0.touched f.0 f.1 f.2) ∙ eqb-true _ _ (and_left _ _ f.3) in
            let joins : (r.0.1 f.0).stamp y ≡ joined w r.0.0.touched y = (stamped e).joins w r.0 r.1 f.0 f.1 f.2 (and_right _ _ f.3) y in
            ap (λ (v : KernelState). (v x).stamp y) r.3 ∙ subst (λ z. (r.0.1 z).stamp y ≡ joined w r.0.0.touched y) same joins ∙ ap (λ (k : Entry). joined w k.touched y) r.2)
      ]

  -- clocks that take the entry in are those after it
  pub clocks_next : (r q : Run) (e : Entry) (old new : Clocks) → IsNext (event_of s script) r.state e → ((x : ℕ) → 64 ≤ x → touch_at e.touched x ≡ None) → q.state ≡ after_entry (event_of s script) r.state e
      → ((x y : ℕ) → x < 64 → clock_at new x y ≡ (if wrote_in e.touched x then joined_in (clock_at old) e.touched y else clock_at old x y)) → HasClocks r old → HasClocks q new
  clocks_next r q e old new next low state takes has = record {
    clocks = λ x y h. takes x y h ∙ by_write x y h (writes e x) refl ∙ ap (λ (w : KernelState). (w x).stamp y) (sym state);
  }
    where
      by_write : (x y : ℕ) → x < 64 → (b : Bool) → writes e x ≡ b → (if writes e x then joined_in (clock_at old) e.touched y else clock_at old x y) ≡ (after_entry (event_of s script) r.state e x).stamp y
      by_write x y h true is = ap (λ c. if c then joined_in (clock_at old) e.touched y else clock_at old x y) is ∙ joined_same (clock_at old) r.state e.touched has.clocks low y ∙ sym (joined_clock r.state e next x y is)
      by_write x y h false is =
          ap (λ c. if c then joined_in (clock_at old) e.touched y else clock_at old x y) is ∙ has.clocks x y h ∙ ap (λ b. b.stamp y) (sym (entry_stays s policy script r.state e next x is))
