-- A legal run is played by its events.
use Rattle.std.proofs.Common.{◌≡◌, ℕ, ◌≤◌, arith, List, [], ◌∷◌, Some, None, option_map, MatchBool, ◌↔◌, refl, ap, subst, ◌∙◌}
use Rattle.base_types.specs.declared.histories.Entry.{Entry}
use Rattle.base_types.specs.declared.histories.Event.{Event}
use Rattle.base_types.specs.declared.histories.Event.TheVariants.{Birth, Step, Snap as SnapEvent, Stable, Tried}
use Rattle.model_kernel.specs.State.{Supply, EntityState, KernelState}
use Rattle.model_kernel.specs.Scripts.{Script}
use Rattle.model_kernel.specs.Steps.{step_change}
use Rattle.model_kernel.specs.Births.{next_birth_change}
use Rattle.model_kernel.specs.LocalEvents.{IsLocal}
use Rattle.model_kernel.specs.Parts.{is_event, IsClosed, part_of, after_entry, after, IsNext, IsPlayed}
use Rattle.model_kernel.specs.Histories.{Policy, Run, event_of, by_event, may, May, goes_on, went_on, IsLegalFrom, IsLegalRun, start_run, run_after}
use Rattle.model_kernel.specs.Vectors.{IsStamped, CoversAt, CoversChosen, StampsBelow, vector_at}
use Rattle.model_kernel.specs.Fronts.{version_vector}
use Rattle.model_kernel.specs.Pasts.{past_vector}
use Rattle.model_kernel.proofs.Carried.{acts_stamped}
use Rattle.model_kernel.proofs.Covering.{closed_of_covers, covers_of_closed}
use Rattle.model_kernel.proofs.PastVectors.{stamp_is, vector_is}
use Rattle.model_kernel.proofs.ChosenVectors.{chosen_of_covers, covers_of_chosen}
use Rattle.model_kernel.proofs.Locality.{step_local, next_birth_local}
use Rattle.model_kernel.proofs.Replay.{Follows, replay_law}

module _ (s : Supply) (policy : Policy) (script : Script) where
  -- no event is local
  none_local : IsLocal (λ (b : EntityState). b.version) (λ (_ : KernelState). None)
  none_local = record {
    same = λ w v r is. cc;
    stays = λ w r is. cc;
    reads = λ w r is. cc;
    writes = λ w r is. cc;
    moves = λ w r is. cc;
  }

  by_event_local : (ev : Event) (actor : ℕ) → IsLocal (λ (b : EntityState). b.version) (by_event s script ev actor)
  by_event_local Birth actor = next_birth_local s script
  by_event_local Step actor = step_local s actor
  by_event_local SnapEvent actor = none_local
  by_event_local Stable actor = none_local
  by_event_local Tried actor = none_local

  -- the event of each entry is local
  pub event_of_local : (e : Entry) → IsLocal (λ (b : EntityState). b.version) (event_of s script e)
  event_of_local e = by_event_local e.event e.actor

  -- the rules look at the state that the entry leaves
  pub state_goes_on : (r : Run) (e : Entry) → (goes_on s script r e).state ≡ after_entry (event_of s script) r.state e
  state_goes_on r e =
      elim e.event as (λ ev. e.event ≡ ev → (went_on s script r e ev).state ≡ after_entry (event_of s script) r.state e) [
        | Birth ↦ λ is. refl
        | Step ↦ λ is. refl
        | SnapEvent ↦ λ is. rw is refl
        | Stable ↦ λ is. rw is refl
        | Tried ↦ λ is. rw is refl
      ] refl

  -- what the rules look at has the state that the events leave
  pub state_after : (r : Run) (es : List Entry) → (run_after s script r es).state ≡ after (event_of s script) r.state es
  state_after r [] = refl
  state_after r (e ∷ es) = state_after (goes_on s script r e) es ∙ ap (λ (w : KernelState). after (event_of s script) w es) (state_goes_on r e)

  -- an entry that may follow is played
  pub next_legal : (r : Run) (e : Entry) → May s policy script r e → IsNext (event_of s script) r.state e
  next_legal r e m =
      elim e.event as (λ ev. may s policy script r e ev → MatchBool (is_event ev) (option_map (λ (r : Entry × KernelState). r.0) (by_event s script ev e.actor r.state) ≡ Some e) (e.touched ≡ [])) [
        | Birth ↦ λ m. m.1
        | Step ↦ λ m. m.4
        | SnapEvent ↦ λ m. ap (λ (e : Entry). e.touched) m.0
        | Stable ↦ λ m. ap (λ (e : Entry). e.touched) m.2
        | Tried ↦ λ m. ap (λ (e : Entry). e.touched) m.0
      ] m.1

  -- so a legal run is
  pub legal_played : (r : Run) (es : List Entry) → IsLegalFrom s policy script r es → IsPlayed (event_of s script) r.state es
  legal_played r [] legal = tt
  legal_played r (e ∷ es) legal =
      (next_legal r e legal.0, subst (λ (w : KernelState). IsPlayed (event_of s script) w es) (state_goes_on r e) (legal_played (goes_on s script r e) es legal.1))

  same : (p : ℕ → ℕ) (w : KernelState) → Follows (λ (b : EntityState). b.version) p w w
  unfolding Follows
  same p w x h = refl

  -- and so is each closed part of it
  pub legal_replay : (w : KernelState) (es : List Entry) (p : ℕ → ℕ) → IsLegalRun s policy w script es → IsClosed p es → IsPlayed (event_of s script) w (part_of p es)
  legal_replay w es p legal closed = (replay_law (λ (b : EntityState). b.version) p (event_of s script) event_of_local es w w (legal_played (start_run w) es legal) closed (same p w)).0

  none_stamped : IsStamped (λ (_ : KernelState). None)
  none_stamped = record {
    rising = λ w r is. cc;
    carries = λ w r is. cc;
    joins = λ w r is. cc;
  }

  by_event_stamped : (ev : Event) (actor : ℕ) → IsStamped (by_event s script ev actor)
  by_event_stamped Birth actor = acts_stamped Birth (next_birth_change s script)
  by_event_stamped Step actor = acts_stamped Step (step_change s actor)
  by_event_stamped SnapEvent actor = none_stamped
  by_event_stamped Stable actor = none_stamped
  by_event_stamped Tried actor = none_stamped

  -- the event of each entry joins the clocks
  pub event_of_stamped : (e : Entry) → IsStamped (event_of s script e)
  event_of_stamped e = by_event_stamped e.event e.actor

  -- the stamp of an entity is the vector of its past
  pub legal_past : (w : KernelState) (es : List Entry) (x y : ℕ) → IsLegalRun s policy w script es → (after (event_of s script) w es x).stamp y ≡ past_vector w es x y
  legal_past w es x y legal = stamp_is (event_of s script) event_of_local event_of_stamped es w x y (legal_played (start_run w) es legal)

  -- a part is closed where the stamps of what it chooses are within
  pub legal_chosen : (w : KernelState) (es : List Entry) (p : ℕ → ℕ) → IsLegalRun s policy w script es → StampsBelow w → ((x : ℕ) → (w x).version ≤ p x) → IsClosed p es ↔ CoversChosen (event_of s script) p w es
  legal_chosen w es p legal below low =
      let played = legal_played (start_run w) es legal in
      let a = event_of_local in
      let b = event_of_stamped in
      let here : CoversAt p w = λ x y h. let m = below x y in let n = low y in omega arith in (
        λ closed. chosen_of_covers (event_of s script) a b es w p played low (covers_of_closed p (event_of s script) a b w es played closed here),
        λ c. closed_of_covers p (event_of s script) a b w es played (covers_of_chosen (event_of s script) a b es w p played (λ x y _. c x y)),
      )

  -- the stamps are the vectors
  pub legal_vectors : (w : KernelState) (es : List Entry) (x n y : ℕ) → IsLegalRun s policy w script es → vector_at (event_of s script) w es x n y ≡ version_vector (event_of s script) w es x n y
  legal_vectors w es x n y legal = vector_is (event_of s script) event_of_local event_of_stamped es w x n y (legal_played (start_run w) es legal)

  -- so a part is closed where the vectors are
  pub legal_part : (w : KernelState) (es : List Entry) (p : ℕ → ℕ) → IsLegalRun s policy w script es → StampsBelow w → ((x : ℕ) → (w x).version ≤ p x) → IsClosed p es ↔ ((x y : ℕ) → version_vector (event_of s script) w es x (p x) y ≤ p y)
  legal_part w es p legal below low =
      let both = legal_chosen w es p legal below low in (
        λ closed x y. (let e = legal_vectors w es x (p x) y legal in let h = both.0 closed x y in omega arith),
        λ c. both.1 (λ x y. let e = legal_vectors w es x (p x) y legal in let h = c x y in omega arith),
      )
