-- Runs entry by entry.
use Rattle.std.proofs.Common.{◌≡◌, ℕ, false, not, ◌&&◌, ◌||◌, if◌then◌else◌, List, [], ◌∷◌, Some, sym, ap, subst, ◌∙◌}
use Rattle.std.specs.List.{list_any}
use Rattle.base_types.specs.declared.histories.Entry.{Entry}
use Rattle.base_types.specs.declared.histories.Event.{Event}
use Rattle.base_types.specs.declared.histories.Event.TheVariants.{Birth, Step}
use Rattle.base_types.specs.declared.histories.Touch.{Touch}
use Rattle.model_run_laws.specs.model_kernel.Births.{next_birth}
use Rattle.model_run_laws.specs.model_kernel.Histories.{IsLegalFrom, May, Policy, Run, after_birth, after_step, by_event, event_of, goes_on, has_wish, is_due, locus_in, noting, owing_births, run_after, went_on}
use Rattle.model_run_laws.specs.model_kernel.Parts.{after_entry, is_event, next_of}
use Rattle.model_run_laws.specs.model_kernel.Scripts.{Script}
use Rattle.model_run_laws.specs.model_kernel.State.{KernelState, LocusCell, LocusState, Supply}
use Rattle.model_run_laws.specs.model_kernel.Steps.{step}
use Rattle.model_examples.specs.Places.{stepped}

abbrev pub entry_in : Entry × KernelState → Entry
entry_in made = made.0

module _ (s : Supply) (script : Script) where
  -- a Step, with the state that it leaves named
  pub step_on : (r : Run) (e : Entry) (l : LocusState) (v : KernelState) → e.event ≡ Step → (r.state e.actor).cell ≡ LocusCell l → step s e.actor r.state ≡ Some (e, v) → goes_on s script r e ≡ stepped r e l v
  step_on r e l v is there made =
      let state : after_entry (event_of s script) r.state e ≡ v =
      ap (λ (ev : Event). if is_event ev then next_of (event_of s script) r.state (by_event s script ev e.actor r.state) else r.state) is ∙ ap (next_of (event_of s script) r.state) made in
      let seen : locus_in (r.state e.actor).cell ≡ Some l = ap locus_in there in
      ap (λ (ev : Event). went_on s script r e ev) is ∙ (λ i. noting (after_step r e (seen i) (state i)))

  -- a birth
  pub birth_on : (r : Run) (e : Entry) (v : KernelState) → e.event ≡ Birth → next_birth s script r.state ≡ Some (e, v) → goes_on s script r e ≡ noting (owing_births script (after_birth r e v))
  birth_on r e v is made =
      let state : after_entry (event_of s script) r.state e ≡ v =
      ap (λ (ev : Event). if is_event ev then next_of (event_of s script) r.state (by_event s script ev e.actor r.state) else r.state) is ∙ ap (next_of (event_of s script) r.state) made in
      ap (λ (ev : Event). went_on s script r e ev) is ∙ (λ i. noting (owing_births script (after_birth r e (state i))))

  pub one_more : (policy : Policy) (r q : Run) (e : Entry) (es : List Entry) → May s policy script r e → goes_on s script r e ≡ q → IsLegalFrom s policy script q es → IsLegalFrom s policy script r (e ∷ es)
  one_more policy r q e es m is rest = (m, subst (λ (k : Run). IsLegalFrom s policy script k es) (sym is) rest)

  pub run_more : (r q : Run) (e : Entry) (es : List Entry) → goes_on s script r e ≡ q → run_after s script r (e ∷ es) ≡ run_after s script q es
  run_more r q e es is = ap (λ (k : Run). run_after s script k es) is

-- WISHES

-- nothing is due where nobody wishes for a record
pub no_wish : (policy : Policy) (r : Run) (x : ℕ) → has_wish policy r x ≡ false → is_due policy r x ≡ false
no_wish policy r x none = ap (λ b. b && not (r.was_full x)) none

pub two_not_due : (policy : Policy) (r : Run) (a b : Touch) → is_due policy r a.entity ≡ false → is_due policy r b.entity ≡ false → list_any (λ (t : Touch). is_due policy r t.entity) (a ∷ b ∷ []) ≡ false
two_not_due policy r a b p q = ap (λ c. c || (is_due policy r b.entity || false)) p ∙ ap (λ c. c || false) q

pub two_calm : (policy : Policy) (r : Run) (a b : Touch) → has_wish policy r a.entity ≡ false → has_wish policy r b.entity ≡ false → list_any (λ (t : Touch). is_due policy r t.entity) (a ∷ b ∷ []) ≡ false
two_calm policy r a b none more = two_not_due policy r a b (no_wish policy r a.entity none) (no_wish policy r b.entity more)

pub one_calm : (policy : Policy) (r : Run) (a : Touch) → has_wish policy r a.entity ≡ false → list_any (λ (t : Touch). is_due policy r t.entity) (a ∷ []) ≡ false
one_calm policy r a none = ap (λ c. c || false) (no_wish policy r a.entity none)
