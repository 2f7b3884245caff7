-- When an entity was full, and which open wishes are due.
use Rattle.std.proofs.Common.{◌≡◌, ℕ, ◌<◌, Bool, true, false, not, ◌&&◌, ◌||◌, nat_le, IsTrue, List, [], ◌∷◌, ◌++◌, Some, ◌↔◌, refl, sym, ap, subst, ◌∙◌, inl, inr, ◌⊎◌}
use Rattle.std.specs.List.{list_any}
use Rattle.std.proofs.lemmas.Bool.{false≢true, or_cases}
use Rattle.base_types.specs.declared.histories.Entry.{Entry}
use Rattle.base_types.specs.declared.histories.Event.TheVariants.{Birth, Step, Snap as SnapEvent, Stable, Tried}
use Rattle.model_run_laws.specs.model_kernel.State.{Supply, KernelState}
use Rattle.model_run_laws.specs.model_kernel.Scripts.{Script}
use Rattle.model_run_laws.specs.model_kernel.Histories.{Policy, Run, asked_by, locus_in, writes, commits_above, commits_in, has_wish, is_due, is_full, may, goes_on, went_on, IsLegalRun, start_run, run_after}
use Rattle.model_run_laws.proofs.model_kernel_lemmas.Basics.{and_left, both, not_false, or_false_left, or_false_right, or_left, or_right}
use Rattle.model_run_laws.proofs.model_kernel_lemmas.LegalRuns.{state_after}
use Rattle.model_run_laws.specs.StepEntries.{is_step}
use Rattle.model_run_laws.proofs.Cuts.{cut_kept}
use Rattle.model_run_laws.proofs.Wishes.{legal_back}
use Rattle.model_run_laws.proofs.Writing.{step_is, step_writes_asked}
use Rattle.model_run_rules.specs.Wishes.{HasOpenWish, IsNamedBySnap, WasNeverFull, is_full_after, steps_on}
use Rattle.model_run_rules.proofs.Wishes.{wish_told}
use Rattle.model_run_laws.proofs.model_kernel_lemmas.StableCuts.{run_append}

unwritten : (a b : Bool) → (not a && b) ≡ true → (a ≡ false) × (b ≡ true)
unwritten true b h = absurd (false≢true h)
unwritten false b h = (refl, h)

not_of : (a b : Bool) → (a && not b) ≡ true → b ≡ false
not_of a true h = absurd (false≢true (sym (and_false a) ∙ h))
  where
    and_false : (a : Bool) → (a && false) ≡ false
    and_false true = refl
    and_false false = refl
not_of a false h = refl

any_append : (f : Entry → Bool) (es fs : List Entry) → list_any f (es ++ fs) ≡ (list_any f es || list_any f fs)
any_append f [] fs = refl
any_append f (e ∷ es) fs = ap (λ b. f e || b) (any_append f es fs) ∙ regroup (f e) (list_any f es) (list_any f fs)
  where
    regroup : (a b c : Bool) → (a || (b || c)) ≡ ((a || b) || c)
    regroup true b c = refl
    regroup false b c = refl

-- full is told by the commits so far
pub full_told : (s : Supply) (script : Script) (w : KernelState) (es : List Entry) (x : ℕ) → is_full (run_after s script (start_run w) es) x ≡ is_full_after s script w es x
full_told s script w es x = ap (λ (cut : ℕ → ℕ). nat_le 4 (commits_above (commits_in s script w es) cut x)) (cut_kept s (λ _ _. false) script w es)

module _ (s : Supply) (script : Script) (x : ℕ) where
  -- WHAT WAS FULL STAYS SO UNTIL A STEP WRITES IT

  kept_one : (r : Run) (e : Entry) → r.was_full x ≡ true → steps_on x e ≡ false → (goes_on s script r e).was_full x ≡ true
  kept_one r e was none =
      elim e.event as (λ ev. (is_step ev && writes e x) ≡ false → (went_on s script r e ev).was_full x ≡ true) [
        | Birth ↦ λ _. or_left (r.was_full x) _ was
        | Step ↦ λ none. or_left (not (writes e x) && r.was_full x) _ (ap (λ b. not b && r.was_full x) none ∙ was)
        | SnapEvent ↦ λ _. or_left (r.was_full x) _ was
        | Stable ↦ λ _. or_left (r.was_full x) _ was
        | Tried ↦ λ _. was
      ] none

  kept_over : (es : List Entry) (r : Run) → r.was_full x ≡ true → list_any (steps_on x) es ≡ false → (run_after s script r es).was_full x ≡ true
  kept_over [] r was none = was
  kept_over (e ∷ es) r was none = kept_over es (goes_on s script r e) (kept_one r e was (or_false_left (steps_on x e) _ none)) (or_false_right (steps_on x e) _ none)

  -- FROM THE FIRST STEP ON, WHAT IS FULL IS NOTED

  abbrev pub IsNoted : Run → Type 0
  IsNoted r = is_full r x ≡ true → r.was_full x ≡ true

  noted_next : (r : Run) (e : Entry) → IsNoted r → IsNoted (goes_on s script r e)
  noted_next r e k =
      elim e.event as (λ ev. IsNoted (went_on s script r e ev)) [
        | Birth ↦ λ full. or_right (r.was_full x) _ full
        | Step ↦ λ full. or_right (not (writes e x) && r.was_full x) _ full
        | SnapEvent ↦ λ full. or_right (r.was_full x) _ full
        | Stable ↦ λ full. or_right (r.was_full x) _ full
        | Tried ↦ k
      ]

  noted_step : (r : Run) (e : Entry) → is_step e.event ≡ true → IsNoted (goes_on s script r e)
  noted_step r e step =
      elim e.event as (λ ev. is_step ev ≡ true → IsNoted (went_on s script r e ev)) [
        | Birth ↦ λ h. absurd (false≢true h)
        | Step ↦ λ _ full. or_right (not (writes e x) && r.was_full x) _ full
        | SnapEvent ↦ λ h. absurd (false≢true h)
        | Stable ↦ λ h. absurd (false≢true h)
        | Tried ↦ λ h. absurd (false≢true h)
      ] step

  noted_over : (es : List Entry) (r : Run) → IsNoted r → IsNoted (run_after s script r es)
  noted_over [] r k = k
  noted_over (e ∷ es) r k = noted_over es (goes_on s script r e) (noted_next r e k)

  noted_from : (es : List Entry) (r : Run) → list_any (steps_on x) es ≡ true → IsNoted (run_after s script r es)
  noted_from [] r some = absurd (false≢true some)
  noted_from (e ∷ es) r some =
      elim (or_cases (steps_on x e) (list_any (steps_on x) es) some) as (λ _. IsNoted (run_after s script (goes_on s script r e) es)) [
        | inl here ↦ noted_over es (goes_on s script r e) (noted_step r e (and_left (is_step e.event) (writes e x) here))
        | inr later ↦ noted_from es (goes_on s script r e) later
      ]

  -- WHERE IT WAS FULL

  record FullPlace (r : Run) (es : List Entry) : Type 0 where
    pub front : List Entry
    pub rest : List Entry
    pub split : es ≡ front ++ rest
    pub none : list_any (steps_on x) rest ≡ false
    pub full : is_full (run_after s script r front) x ≡ true

  place_one : (r : Run) (e : Entry) → (goes_on s script r e).was_full x ≡ true → ((r.was_full x ≡ true) × (steps_on x e ≡ false)) ⊎ (is_full (goes_on s script r e) x ≡ true)
  place_one r e was =
      elim e.event as (λ ev. (went_on s script r e ev).was_full x ≡ true → ((r.was_full x ≡ true) × ((is_step ev && writes e x) ≡ false)) ⊎ (is_full (went_on s script r e ev) x ≡ true)) [
        | Birth ↦ λ h. split (r.was_full x) _ false h
        | Step ↦ λ h. elim (or_cases (not (writes e x) && r.was_full x) _ h) as (λ _. ((r.was_full x ≡ true) × (writes e x ≡ false)) ⊎ (is_full (went_on s script r e Step) x ≡ true)) [
          | inl k ↦ (let q = unwritten (writes e x) (r.was_full x) k in inl (q.1, q.0))
          | inr k ↦ inr k
        ]
        | SnapEvent ↦ λ h. split (r.was_full x) _ false h
        | Stable ↦ λ h. split (r.was_full x) _ false h
        | Tried ↦ λ h. inl (h, refl)
      ] was
    where
      split : (a b c : Bool) → (a || b) ≡ true → ((a ≡ true) × (false ≡ false)) ⊎ (b ≡ true)
      split true b c h = inl (refl, refl)
      split false b c h = inr h

  full_place : (es : List Entry) (r : Run) → (run_after s script r es).was_full x ≡ true → ((r.was_full x ≡ true) × (list_any (steps_on x) es ≡ false)) ⊎ FullPlace r es
  full_place [] r was = inl (was, refl)
  full_place (e ∷ es) r was =
      elim (full_place es (goes_on s script r e) was) as (λ _. ((r.was_full x ≡ true) × (list_any (steps_on x) (e ∷ es) ≡ false)) ⊎ FullPlace r (e ∷ es)) [
        | inr k ↦ inr (record { front = e ∷ k.front; rest = k.rest; split = ap (λ fs. e ∷ fs) k.split; none = k.none; full = k.full })
        | inl k ↦ elim (place_one r e k.0) as (λ _. ((r.was_full x ≡ true) × (list_any (steps_on x) (e ∷ es) ≡ false)) ⊎ FullPlace r (e ∷ es)) [
          | inl old ↦ inl (old.0, ap (λ b. b || list_any (steps_on x) es) old.1 ∙ k.1)
          | inr full ↦ inr (record { front = e ∷ []; rest = es; split = refl; none = k.1; full = full })
        ]
      ]

-- DUE

module _ (s : Supply) (policy : Policy) (script : Script) (x : ℕ) (w : KernelState) (es : List Entry) (legal : IsLegalRun s policy w script es) where
  -- a Step wrote what has an open wish
  step_in : (before later : List Entry) (e : Entry) → es ≡ before ++ e ∷ later → e.event ≡ Step → writes e x ≡ true → list_any (steps_on x) es ≡ true
  step_in before later e split made wrote =
      let here : steps_on x e ≡ true = both (is_step e.event) (writes e x) (ap is_step made) wrote in
      ap (list_any (steps_on x)) split ∙ any_append (steps_on x) before (e ∷ later)
      ∙ or_right (list_any (steps_on x) before) (steps_on x e || list_any (steps_on x) later) (or_left (steps_on x e) (list_any (steps_on x) later) here)

  named_writes : IsNamedBySnap s script w es x → list_any (steps_on x) es ≡ true
  named_writes k =
      let r = run_after s script (start_run w) k.before in
      let split = subst (IsLegalRun s policy w script) k.split legal in
      let back = legal_back s policy script (start_run w) k.before (k.step ∷ k.later) split in
      let step = step_is s k.step.actor r.state k.step (subst (may s policy script r k.step) k.made back.0.1).4 in
      let named = subst (λ (v : KernelState). asked_by k.step.answer (locus_in (v k.step.actor).cell) ≡ Some x) (sym (state_after s policy script (start_run w) k.before)) k.named in
      step_in k.before k.later k.step k.split k.made (step_writes_asked s k.step.actor r.state k.step x step named)

  pub wish_writes : HasOpenWish s script w es x policy → list_any (steps_on x) es ≡ true
  wish_writes h = elim h as (λ _. list_any (steps_on x) es ≡ true) [ inl k ↦ step_in k.0.before k.0.later k.0.step k.0.split k.0.made k.0.wrote | inr k ↦ named_writes k ]

  never_full : (run_after s script (start_run w) es).was_full x ≡ false → WasNeverFull s script w es x
  never_full was front rest split some none =
      sym (full_told s script w front x) ∙ not_false (is_full (run_after s script (start_run w) front) x) (λ full.
      let noted = noted_from s script x front (start_run w) some full in
      let kept = kept_over s script x rest (run_after s script (start_run w) front) noted none in
      let whole : run_after s script (start_run w) es ≡ run_after s script (run_after s script (start_run w) front) rest = ap (run_after s script (start_run w)) split ∙ run_append s policy script (start_run w) front rest in
      false≢true (sym was ∙ ap (λ (r : Run). r.was_full x) whole ∙ kept))

  of_never_full : list_any (steps_on x) es ≡ true → WasNeverFull s script w es x → (run_after s script (start_run w) es).was_full x ≡ false
  of_never_full some never =
      not_false ((run_after s script (start_run w) es).was_full x) (λ was.
      elim (full_place s script x es (start_run w) was) as (λ _. ⊥) [
        | inl k ↦ false≢true k.0
        | inr k ↦ (
            let cases = or_cases (list_any (steps_on x) k.front) (list_any (steps_on x) k.rest) (sym (any_append (steps_on x) k.front k.rest) ∙ ap (list_any (steps_on x)) (sym k.split) ∙ some) in
            let front : list_any (steps_on x) k.front ≡ true = elim cases as (λ _. list_any (steps_on x) k.front ≡ true) [ inl h ↦ h | inr h ↦ absurd (false≢true (sym k.none ∙ h)) ] in
            false≢true (sym (never k.front k.rest k.split front k.none) ∙ sym (full_told s script w k.front x) ∙ k.full))
      ])

  -- where an open wish is told
  pub due_by : IsTrue (has_wish policy (run_after s script (start_run w) es) x) ↔ HasOpenWish s script w es x policy
      → IsTrue (is_due policy (run_after s script (start_run w) es) x) ↔ (HasOpenWish s script w es x policy × WasNeverFull s script w es x)
  due_by wish =
      let r = run_after s script (start_run w) es in (
        λ due. (wish.0 (and_left (has_wish policy r x) (not (r.was_full x)) due), never_full (not_of (has_wish policy r x) (r.was_full x) due)),
        λ k. both (has_wish policy r x) (not (r.was_full x)) (wish.1 k.0) (ap not (of_never_full (wish_writes k.0) k.1)),
      )

  pub due_told : x < 64 → IsTrue (is_due policy (run_after s script (start_run w) es) x) ↔ (HasOpenWish s script w es x policy × WasNeverFull s script w es x)
  due_told low = due_by (wish_told s policy script x low w es legal)
