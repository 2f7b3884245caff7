-- Versions and steps, told by the entries.
use Rattle.std.proofs.Common.{◌≡◌, ℕ, ◌+◌, Bool, true, false, ◌&&◌, ◌||◌, ◌==◌, cond, if◌then◌else◌, List, [], ◌∷◌, ◌++◌, length, filter, count_by, refl, sym, ap, subst, ◌∙◌, arith, eqb-true, inl, inr, length-append}
use Rattle.std.specs.List.{list_any}
use Rattle.std.proofs.lemmas.Bool.{false≢true}
use Rattle.std.proofs.lemmas.List.Sums.{sum_by-cons}
use Rattle.model_cut_laws.specs.base_types.declared.histories.Entry.{Entry}
use Rattle.model_cut_laws.specs.base_types.declared.histories.Touch.{Touch}
use Rattle.model_cut_laws.specs.base_types.declared.histories.Event.TheVariants.{Birth, Step, Snap as SnapEvent, Stable, Tried}
use Rattle.model_cut_laws.specs.model_kernel.State.{Supply, EntityState, KernelState}
use Rattle.model_cut_laws.specs.model_kernel.Scripts.{Script}
use Rattle.model_cut_laws.specs.model_kernel.Parts.{after_entry, after, IsNext, IsPlayed}
use Rattle.model_cut_laws.specs.model_kernel.Histories.{Policy, Run, event_of, writes, version_after, goes_on, went_on, IsLegalRun, start_run, run_after}
use Rattle.model_cut_laws.proofs.model_kernel_lemmas.Basics.{and_left, and_right}
use Rattle.model_cut_laws.proofs.model_kernel_lemmas.Covering.{Is_next, is_next, found}
use Rattle.model_cut_laws.proofs.model_kernel_lemmas.Replay.{at_entity}
use Rattle.model_cut_laws.proofs.model_kernel_lemmas.LegalRuns.{event_of_local, event_of_stamped, legal_played}
use Rattle.model_run_laws.specs.StepEntries.{is_step, steps_by}
use Rattle.model_run_laws.proofs.Writing.{entry_stays}

module _ (s : Supply) (policy : Policy) (script : Script) where
  pub written_rises : (w : KernelState) (e : Entry) → IsNext (event_of s script) w e → (x : ℕ) → writes e x ≡ true → (after_entry (event_of s script) w e x).version ≡ (w x).version + 1
  unfolding Is_next
  written_rises w e next x wrote =
      let act = event_of s script in
      let local = event_of_local s policy script in
      let stamped = event_of_stamped s policy script in
      elim (is_next (λ _. 0) act local stamped w e next) as (λ _. (after_entry act w e x).version ≡ (w x).version + 1) [
        | inr none ↦ absurd (false≢true (ap (λ ts. list_any (λ (t : Touch). t.entity == x && t.wrote) ts) (sym none.0) ∙ wrote))
        | inl r ↦ (
            let test = λ (t : Touch). t.entity == x && t.wrote in
            let some : list_any test r.0.0.touched ≡ true = ap (λ (k : Entry). writes k x) r.2 ∙ wrote in
            let f = found test r.0.0.touched ((stamped e).rising w r.0 r.1) some in
            let same : f.0 ≡ x = sym (at_entity r.0.0.touched f.0 f.1 f.2) ∙ eqb-true _ _ (and_left _ _ f.3) in
            let q = (local e).writes w r.0 r.1 f.0 f.1 f.2 (and_right _ _ f.3) in
            let rises : (r.0.1 f.0).version ≡ (w f.0).version + 1 = q.0 ∙ sym q.1 in
            ap (λ (v : KernelState). (v x).version) r.3 ∙ subst (λ z. (r.0.1 z).version ≡ (w z).version + 1) same rises)
      ]

  entry_version : (w : KernelState) (e : Entry) → IsNext (event_of s script) w e → (x : ℕ) (n : ℕ) → n ≡ cond (writes e x) 1 0 → (after_entry (event_of s script) w e x).version ≡ (w x).version + n
  entry_version w e next x n is =
      elim (writes e x) as (λ b. writes e x ≡ b → n ≡ cond b 1 0 → (after_entry (event_of s script) w e x).version ≡ (w x).version + n) [
        | true ↦ λ wrote is. written_rises w e next x wrote ∙ ap (λ k. (w x).version + k) (sym is)
        | false ↦ λ none is. (let same = ap (λ (b : EntityState). b.version) (entry_stays s policy script w e next x none) in omega (arith, same, is))
      ] refl is

  versions_over : (es : List Entry) (w : KernelState) → IsPlayed (event_of s script) w es → (x : ℕ) → (after (event_of s script) w es x).version ≡ (w x).version + count_by (λ e. writes e x) es
  versions_over [] w played x = (let z : count_by (λ (e : Entry). writes e x) [] ≡ 0 = refl in omega (arith, z))
  versions_over (e ∷ es) w played x =
      let rest = versions_over es (after_entry (event_of s script) w e) played.1 x in
      let n = cond (writes e x) 1 0 in
      let one = entry_version w e played.0 x n refl in
      let count : count_by (λ e. writes e x) (e ∷ es) ≡ n + count_by (λ e. writes e x) es = sum_by-cons (λ (e : Entry). cond (writes e x) 1 0) e es in
      omega (arith, rest, one, count)

  pub versions_told : (w : KernelState) (es : List Entry) (x : ℕ) → IsLegalRun s policy w script es → (after (event_of s script) w es x).version ≡ version_after (λ x. (w x).version) es x
  versions_told w es x legal = versions_over es w (legal_played s policy script (start_run w) es legal) x

step_one : (s : Supply) (script : Script) (r : Run) (e : Entry) (x n : ℕ) → n ≡ cond (steps_by x e) 1 0 → (goes_on s script r e).steps x ≡ r.steps x + n
step_one s script r e x n is =
    elim e.event as (λ ev. n ≡ cond (is_step ev && x == e.actor) 1 0 → (went_on s script r e ev).steps x ≡ r.steps x + n) [
      | Birth ↦ λ is. omega (arith, is)
      | Step ↦ λ is. elim (x == e.actor) as (λ b. (x == e.actor) ≡ b → n ≡ cond b 1 0 → (if b then r.steps e.actor + 1 else r.steps x) ≡ r.steps x + n) [
        | true ↦ λ at is. (let same : r.steps x ≡ r.steps e.actor = ap r.steps (eqb-true _ _ at) in omega (arith, same, is))
        | false ↦ λ _ is. omega (arith, is)
      ] refl is
      | SnapEvent ↦ λ is. omega (arith, is)
      | Stable ↦ λ is. omega (arith, is)
      | Tried ↦ λ is. omega (arith, is)
    ] is

pub steps_told : (s : Supply) (script : Script) (r : Run) (es : List Entry) (x : ℕ) → (run_after s script r es).steps x ≡ r.steps x + count_by (steps_by x) es
steps_told s script r [] x = (let z : count_by (steps_by x) [] ≡ 0 = refl in omega (arith, z))
steps_told s script r (e ∷ es) x =
    let rest = steps_told s script (goes_on s script r e) es x in
    let n = cond (steps_by x e) 1 0 in
    let one = step_one s script r e x n refl in
    let count : count_by (steps_by x) (e ∷ es) ≡ n + count_by (steps_by x) es = sum_by-cons (λ (e : Entry). cond (steps_by x e) 1 0) e es in
    omega (arith, rest, one, count)

-- WHERE NO MORE ENTRIES WRITE

filter_append : (f : Entry → Bool) (es fs : List Entry) → filter f (es ++ fs) ≡ filter f es ++ filter f fs
filter_append f [] fs = refl
filter_append f (e ∷ es) fs = elim (f e) as (λ b. cond b (e ∷ filter f (es ++ fs)) (filter f (es ++ fs)) ≡ cond b (e ∷ filter f es) (filter f es) ++ filter f fs) [
  | true ↦ ap (λ gs. e ∷ gs) (filter_append f es fs)
  | false ↦ filter_append f es fs
]

none_more : (f : Entry → Bool) (fs : List Entry) → length (filter f fs) ≡ 0 → list_any f fs ≡ false
none_more f [] e = refl
none_more f (e ∷ fs) none = elim (f e) as (λ b. length (cond b (e ∷ filter f fs) (filter f fs)) ≡ 0 → (b || list_any f fs) ≡ false) [
  | true ↦ λ h. absurd (omega (arith, h))
  | false ↦ λ h. none_more f fs h
] none

pub none_writes : (x : ℕ) (es fs : List Entry) → filter (λ e. writes e x) (es ++ fs) ≡ filter (λ e. writes e x) es → list_any (λ e. writes e x) fs ≡ false
none_writes x es fs same =
    let f = λ (e : Entry). writes e x in
    let whole = ap length (sym (filter_append f es fs) ∙ same) in
    let sum = length-append (filter f es) (filter f fs) in
    none_more f fs (omega (arith, whole, sum))
