-- Histories whose births stand first keep sound states sound.
use Rattle.std.proofs.Common.{◌≡◌, ℕ, true, false, ◌⊎◌, inl, inr, if◌then◌else◌, cond, Bool, List, [], ◌∷◌, filter, Option, Some, None, is_some, refl, sym, ap, subst, ◌∙◌}
use Rattle.std.specs.List.{All}
use Rattle.script_types.specs.base_types.declared.histories.Entry.{Entry}
use Rattle.script_types.specs.base_types.declared.histories.Event.{Event}
use Rattle.script_types.specs.base_types.declared.histories.Event.TheVariants.{Birth, Step, Snap as SnapEvent, Stable, Tried}
use Rattle.script_types.specs.model_kernel.State.{Supply, KernelState}
use Rattle.script_types.specs.model_kernel.Scripts.{Script}
use Rattle.script_types.specs.model_kernel.Soundness.{IsSound}
use Rattle.script_types.specs.model_kernel.Steps.{atlas_in, step}
use Rattle.script_types.specs.model_kernel.Births.{next_birth}
use Rattle.script_types.specs.model_kernel.Parts.{is_event, next_of, after_entry, after, within, part_of}
use Rattle.script_types.specs.model_kernel.Histories.{Policy, Run, event_of, by_event, may, goes_on, went_on, IsLegalFrom, IsLegalRun, start_run}
use Rattle.script_types.specs.Rules.{IsScript}
use Rattle.model_sound_steps.proofs.Steps.{step_sound}
use Rattle.model_sound_runs.proofs.Births.{NotLocus, birth_leaves}
use Rattle.std.proofs.lemmas.Bool.{true≢false}

-- WHERE BIRTHS STAND

abbrev pub NoBirths : List Entry → Type 0
NoBirths [] = Unit {0}
NoBirths (e ∷ es) = (e.event ≡ Birth → ⊥) × NoBirths es

-- no birth stands behind another entry
abbrev pub BirthsFirst : List Entry → Type 0
BirthsFirst [] = Unit {0}
BirthsFirst (e ∷ es) = ((e.event ≡ Birth) × BirthsFirst es) ⊎ NoBirths (e ∷ es)

none_kept : (f : Entry → Bool) (es : List Entry) → NoBirths es → NoBirths (filter f es)
none_kept f [] h = tt
none_kept f (e ∷ es) h = elim (f e) as (λ b. NoBirths (cond b (e ∷ filter f es) (filter f es))) [ true ↦ (h.0, none_kept f es h.1) | false ↦ none_kept f es h.1 ]

first_of_none : (es : List Entry) → NoBirths es → BirthsFirst es
first_of_none [] h = tt
first_of_none (e ∷ es) h = inr h

pub first_kept : (f : Entry → Bool) (es : List Entry) → BirthsFirst es → BirthsFirst (filter f es)
first_kept f [] h = tt
first_kept f (e ∷ es) h = elim h as (λ _. BirthsFirst (filter f (e ∷ es))) [
  | inl k ↦ elim (f e) as (λ b. BirthsFirst (cond b (e ∷ filter f es) (filter f es))) [ true ↦ inl (k.0, first_kept f es k.1) | false ↦ first_kept f es k.1 ]
  | inr k ↦ first_of_none (filter f (e ∷ es)) (none_kept f (e ∷ es) k)
]

step_birth : (ev : Event) → ev ≡ Step → ev ≡ Birth → ⊥
step_birth ev p q = cc

snap_birth : (ev : Event) → ev ≡ SnapEvent → ev ≡ Birth → ⊥
snap_birth ev p q = cc

stable_birth : (ev : Event) → ev ≡ Stable → ev ≡ Birth → ⊥
stable_birth ev p q = cc

tried_birth : (ev : Event) → ev ≡ Tried → ev ≡ Birth → ⊥
tried_birth ev p q = cc

module _ (s : Supply) (policy : Policy) (script : Script) where
  -- once anything else was made, no birth is
  none_later : (r : Run) (es : List Entry) → r.began ≡ false → IsLegalFrom s policy script r es → NoBirths es
  none_later r [] over legal = tt
  none_later r (e ∷ es) over legal = (
    λ is. true≢false (sym (subst (may s policy script r e) is legal.0.1).0 ∙ over),
    none_later (goes_on s script r e) es (elim e.event as (λ ev. (went_on s script r e ev).began ≡ false) [ Birth ↦ over | Step ↦ refl | SnapEvent ↦ refl | Stable ↦ refl | Tried ↦ over ]) legal.1,
  )

  -- nothing follows a try
  none_tried : (r : Run) (es : List Entry) → is_some r.tried ≡ true → IsLegalFrom s policy script r es → NoBirths es
  none_tried r [] tried legal = tt
  none_tried r (e ∷ es) tried legal = absurd (true≢false (sym tried ∙ ap is_some legal.0.0))

  pub legal_first : (r : Run) (es : List Entry) → IsLegalFrom s policy script r es → BirthsFirst es
  legal_first r [] legal = tt
  legal_first r (e ∷ es) legal =
      elim e.event as (λ ev. e.event ≡ ev → BirthsFirst (e ∷ es)) [
        | Birth ↦ λ is. inl (is, legal_first (goes_on s script r e) es legal.1)
        | Step ↦ λ is. inr (step_birth e.event is, none_later (goes_on s script r e) es (ap (λ ev. (went_on s script r e ev).began) is) legal.1)
        | SnapEvent ↦ λ is. inr (snap_birth e.event is, none_later (goes_on s script r e) es (ap (λ ev. (went_on s script r e ev).began) is) legal.1)
        | Stable ↦ λ is. inr (stable_birth e.event is, none_later (goes_on s script r e) es (ap (λ ev. (went_on s script r e ev).began) is) legal.1)
        | Tried ↦ λ is. inr (tried_birth e.event is, none_tried (goes_on s script r e) es (ap (λ ev. is_some (went_on s script r e ev).tried) is) legal.1)
      ] refl

  -- SOUNDNESS

  -- with names of the script's containers that are no locus's
  abbrev pub Holds : KernelState → Type 0
  Holds w = IsSound (λ x. (w x).cell) × All (NotLocus (atlas_in (w 0).cell)) script.containers

  after_step : (w : KernelState) (actor : ℕ) → IsSound (λ x. (w x).cell) → (o : Option (Entry × KernelState)) → step s actor w ≡ o → IsSound (λ x. (next_of (event_of s script) w o x).cell)
  after_step w actor sound None is = sound
  after_step w actor sound (Some r) is = step_sound s actor w r sound is

  after_birth : (w : KernelState) → IsScript script → Holds w → (o : Option (Entry × KernelState)) → next_birth s script w ≡ o → Holds (next_of (event_of s script) w o)
  after_birth w rules h None is = h
  after_birth w rules h (Some r) is = (let b = birth_leaves s script w r rules h.1 h.0 is in (b.sound, b.kinds))

  pub other_entry : (w : KernelState) (e : Entry) → (e.event ≡ Birth → ⊥) → IsSound (λ x. (w x).cell) → IsSound (λ x. (after_entry (event_of s script) w e x).cell)
  other_entry w e other sound =
      elim e.event as (λ ev. e.event ≡ ev → IsSound (λ x. ((if is_event ev then next_of (event_of s script) w (by_event s script ev e.actor w) else w) x).cell)) [
        | Birth ↦ λ is. absurd (other is)
        | Step ↦ λ is. after_step w e.actor sound (step s e.actor w) refl
        | SnapEvent ↦ λ is. sound
        | Stable ↦ λ is. sound
        | Tried ↦ λ is. sound
      ] refl

  pub birth_entry : (w : KernelState) (e : Entry) → e.event ≡ Birth → IsScript script → Holds w → Holds (after_entry (event_of s script) w e)
  birth_entry w e is rules h =
      subst (λ ev. Holds (if is_event ev then next_of (event_of s script) w (by_event s script ev e.actor w) else w)) (sym is) (after_birth w rules h (next_birth s script w) refl)

  sound_over_steps : (es : List Entry) (w : KernelState) → NoBirths es → IsSound (λ x. (w x).cell) → IsSound (λ x. (after (event_of s script) w es x).cell)
  sound_over_steps [] w none sound = sound
  sound_over_steps (e ∷ es) w none sound = sound_over_steps es (after_entry (event_of s script) w e) none.1 (other_entry w e none.0 sound)

  pub sound_over : (es : List Entry) (w : KernelState) → BirthsFirst es → IsScript script → Holds w → IsSound (λ x. (after (event_of s script) w es x).cell)
  sound_over [] w births rules h = h.0
  sound_over (e ∷ es) w births rules h = elim births as (λ _. IsSound (λ x. (after (event_of s script) (after_entry (event_of s script) w e) es x).cell)) [
    | inl k ↦ sound_over es (after_entry (event_of s script) w e) k.1 rules (birth_entry w e k.0 rules h)
    | inr k ↦ sound_over_steps (e ∷ es) w k h.0
  ]

  pub legal_sound : (w : KernelState) (es : List Entry) → IsScript script → Holds w → IsLegalRun s policy w script es → IsSound (λ x. (after (event_of s script) w es x).cell)
  legal_sound w es rules h legal = sound_over es w (legal_first (start_run w) es legal) rules h

  pub part_sound : (w : KernelState) (es : List Entry) (p : ℕ → ℕ) → IsScript script → Holds w → IsLegalRun s policy w script es → IsSound (λ x. (after (event_of s script) w (part_of p es) x).cell)
  part_sound w es p rules h legal = sound_over (part_of p es) w (first_kept (within p) es (legal_first (start_run w) es legal)) rules h
