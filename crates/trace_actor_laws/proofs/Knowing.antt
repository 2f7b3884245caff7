-- What a legal run commits is born, and so is who owes a Stable.
use Rattle.std.proofs.Common.{◌≡◌, ℕ, ◌<◌, Bool, true, false, not, ◌&&◌, ◌||◌, ◌==◌, if◌then◌else◌, IsTrue, List, [], ◌∷◌, Option, Some, None, find, refl, sym, ap, subst, ◌∙◌, arith, eqb-true, ◌⊎◌, inl, inr}
use Rattle.std.specs.List.{All}
use Rattle.std.proofs.lemmas.List.Elements.{All-nil}
use Rattle.std.proofs.lemmas.Bool.{false≢true, ltb-true}
use Rattle.base_types.specs.Edges.{upto}
use Rattle.base_types.specs.declared.histories.Answer.{Answer}
use Rattle.base_types.specs.declared.histories.Entry.{Entry}
use Rattle.base_types.specs.declared.histories.Event.TheVariants.{Birth, Step, Snap as SnapEvent, Stable, Tried}
use Rattle.base_types.specs.declared.histories.Touch.{Touch}
use Rattle.plain_states.specs.model_kernel.Births.{next_birth}
use Rattle.plain_states.specs.model_kernel.Histories.{IsLegalFrom, IsLegalRun, May, MayCommit, Policy, Run, births_owed, event_of, goes_on, has_changed, asked_by, with_asked, writes, locus_in as locus_of, may, owed_by, run_after, stabilises, start_run, version_of, went_on}
use Rattle.plain_states.specs.model_kernel.Parts.{after_entry, is_event, next_of}
use Rattle.plain_states.specs.model_kernel.Scripts.{Script}
use Rattle.plain_states.specs.model_kernel.Soundness.{IsSound, is_born}
use Rattle.plain_states.specs.model_kernel.State.{AtlasState, EntityState, KernelState, LocusState, Supply}
use Rattle.plain_states.specs.model_kernel.Steps.{atlas_in, step}
use Rattle.plain_states.specs.model_kernel.Words.{put}
use Rattle.plain_states.proofs.model_kernel_lemmas.Basics.{some_of_map}
use Rattle.plain_states.proofs.model_kernel_lemmas.LegalRuns.{next_legal, state_goes_on}
use Rattle.model_sound_states.specs.model_sound_runs.Names.{KeepsNames}
use Rattle.model_sound_states.proofs.model_run_laws_lemmas.Tellings.{written_rises}
use Rattle.model_sound_states.proofs.model_run_laws_lemmas.Wishes.{asked_or}
use Rattle.model_sound_states.proofs.model_run_laws_lemmas.Writing.{step_is, step_writes_asked}
use Rattle.plain_states.specs.script_types.Rules.{IsScript}
use Rattle.model_sound_states.proofs.model_sound_runs_lemmas.Births.{NotLocus}
use Rattle.model_sound_states.proofs.model_sound_runs_lemmas.Standing.{IsStanding, apart_snap, apart_stable, apart_step, apart_tried, standing_next}
use Rattle.model_sound_states.proofs.model_sound_steps_lemmas.Cells.{locus_in}
use Rattle.trace_actor_laws.proofs.Changing.{Bears, IsWidened, birth_widens, each_born, stays_born, stays_or_born, step_widens}
use Rattle.model_sound_states.proofs.model_sound_runs_lemmas.Naming.{keeps_same}
use Rattle.model_sound_states.proofs.model_sound_steps_lemmas.Growth.{born_locus}
use Rattle.std.proofs.lemmas.Option.{same_Some}

abbrev pub atlas_of : Run → AtlasState
atlas_of r = atlas_in (r.state 0).cell

-- what has changed since its newest commit is born, what a step wrote or a snap named since, and who owes a Stable
pub record IsKnown (r : Run) : Type 0 where
  pub by_step : (x : ℕ) → r.by_step x ≡ true → IsTrue (is_born (atlas_of r) x)
  pub asked : (x : ℕ) → r.asked x ≡ true → IsTrue (is_born (atlas_of r) x)
  pub changed : (x : ℕ) → r.newest x < version_of r x → IsTrue (is_born (atlas_of r) x)
  pub owed : (x : ℕ) → r.owed ≡ Some x → IsTrue (is_born (atlas_of r) x)

none_some : {A B : Type 0} (x : A) → None ≡ Some x → B
none_some {A} {B} x e = absurd (apart x e)
  where
    apart : (x : A) → None ≡ Some x → ⊥
    apart x e = cc

-- a mark that is kept, or not
kept_mark : (b c : Bool) → (not b && c) ≡ true → c ≡ true
kept_mark true c e = absurd (false≢true e)
kept_mark false c e = e

owes_zero : (b : Bool) (x : ℕ) → (if b then None else Some 0) ≡ Some x → x ≡ 0
owes_zero true x e = none_some x e
owes_zero false x e = sym (same_Some 0 x e)

-- a mark that was taken away is none
unput : (f : ℕ → Bool) (k x : ℕ) → put f k false x ≡ true → f x ≡ true
unput f k x e = elim (x == k) as (λ b. (if b then false else f x) ≡ true → f x ≡ true) [ true ↦ λ e. absurd (false≢true e) | false ↦ λ e. e ] e

owes_self : (actor : ℕ) (answer : Answer) (o : Option LocusState) (x : ℕ) → owed_by actor answer o ≡ Some x → x ≡ actor
owes_self actor answer None x e = none_some x e
owes_self actor answer (Some l) x e =
    elim (stabilises answer (Rattle.plain_states.specs.model_kernel.Refusals.instr_at l)) as (λ b. (if b then Some actor else None) ≡ Some x → x ≡ actor) [
      | true ↦ λ e. sym (same_Some actor x e)
      | false ↦ λ e. none_some x e
    ] e

module _ (s : Supply) (policy : Policy) (script : Script) (rules : IsScript script) where
  -- the state that a birth leaves, and the newborn is born then
  birth_bears : (r : Run) (e : Entry) → e.event ≡ Birth → May s policy script r e → Bears r.state (e, (goes_on s script r e).state)
  birth_bears r e is m =
      let k = subst (may s policy script r e) is m.1 in
      let q = some_of_map (λ (q : Entry × KernelState). q.0) (next_birth s script r.state) e k.1 in
      let left : (goes_on s script r e).state ≡ q.0.1 = state_goes_on s policy script r e
      ∙ ap (λ ev. if is_event ev then next_of (event_of s script) r.state (Rattle.plain_states.specs.model_kernel.Histories.by_event s script ev e.actor r.state) else r.state) is ∙ ap (next_of (event_of s script) r.state) q.1 in
      subst (λ (v : KernelState). Bears r.state (e, v)) (sym left) (subst (λ (f : Entry). Bears r.state (f, q.0.1)) q.2 (birth_widens s script r.state q.0 rules q.1))

  pub birth_left : (r : Run) (e : Entry) → e.event ≡ Birth → May s policy script r e → IsWidened r.state e (goes_on s script r e).state
  birth_left r e is m = (birth_bears r e is m).0

  pub newborn_born : (r : Run) (e : Entry) → e.event ≡ Birth → May s policy script r e → IsTrue (is_born (atlas_of (goes_on s script r e)) e.actor)
  newborn_born r e is m = (birth_bears r e is m).1

  -- the state that a step leaves
  step_left : (r : Run) (e : Entry) → e.event ≡ Step → May s policy script r e → IsStanding script r → IsWidened r.state e (goes_on s script r e).state
  step_left r e is m h =
      let k = subst (may s policy script r e) is m.1 in
      let q = some_of_map (λ (q : Entry × KernelState). q.0) (step s e.actor r.state) e k.4 in
      let left : (goes_on s script r e).state ≡ q.0.1 = state_goes_on s policy script r e
      ∙ ap (λ ev. if is_event ev then next_of (event_of s script) r.state (Rattle.plain_states.specs.model_kernel.Histories.by_event s script ev e.actor r.state) else r.state) is ∙ ap (next_of (event_of s script) r.state) q.1 in
      subst (IsWidened r.state e) (sym left) (subst (λ (f : Entry). IsWidened r.state f q.0.1) q.2 (step_widens s e.actor r.state q.0 h.sound q.1))

  -- the locus of a step is born
  pub stepper_born : (r : Run) (e : Entry) → e.event ≡ Step → May s policy script r e → IsStanding script r → IsTrue (is_born (atlas_of r) e.actor)
  stepper_born r e is m h =
      let k = subst (may s policy script r e) is m.1 in
      let i = step_is s e.actor r.state e k.4 in
      let at = locus_in h.sound.0 (λ x. (r.state x).cell) e.actor i.locus h.sound.1 i.there in
      subst (λ (a : AtlasState). IsTrue (is_born a e.actor)) (sym (ap atlas_in h.sound.1.atlas)) (born_locus h.sound.0 e.actor at.0)

  -- what a run that is widened keeps
  changed_kept : (r q : Run) (e : Entry) → IsKnown r → IsWidened r.state e q.state → q.newest ≡ r.newest → (x : ℕ) → q.newest x < version_of q x → IsTrue (is_born (atlas_of q) x)
  changed_kept r q e known wide newest x less =
      elim (stays_or_born r.state e q.state x wide) as (λ _. IsTrue (is_born (atlas_of q) x)) [
        | inl same ↦ stays_born (atlas_of r) (atlas_of q) x wide.names (known.changed x (let v = ap (λ (k : EntityState). k.version) same in let n = ap (λ (f : ℕ → ℕ). f x) newest in omega (arith, v, n, less)))
        | inr born ↦ born
      ]

  -- what is written now, and what was known
  widened_born : (r q : Run) (e : Entry) → May s policy script r e → IsWidened r.state e q.state → q.state ≡ (goes_on s script r e).state → (x : ℕ) → writes e x ≡ true → IsTrue (is_born (atlas_of q) x)
  widened_born r q e m wide left x wrote =
      let rise = written_rises s policy script r.state e (next_legal s policy script r e m) x wrote in
      let now : version_of q x ≡ (after_entry (event_of s script) r.state e x).version = ap (λ (v : KernelState). (v x).version) (left ∙ state_goes_on s policy script r e) in
      elim (stays_or_born r.state e q.state x wide) as (λ _. IsTrue (is_born (atlas_of q) x)) [
        | inl same ↦ (let v = ap (λ (k : EntityState). k.version) same in absurd (omega (arith, rise, now, v)))
        | inr born ↦ born
      ]

  pub known_next : (r : Run) (e : Entry) → May s policy script r e → IsStanding script r → IsKnown r → IsKnown (goes_on s script r e)
  known_next r e m h known =
      elim e.event as (λ ev. e.event ≡ ev → IsKnown (goes_on s script r e)) [
        | Birth ↦ λ is.
            let wide = birth_left r e is m in
            let q = goes_on s script r e in
            let newest : q.newest ≡ r.newest = ap (λ ev. (went_on s script r e ev).newest) is in
            let owes : q.owed ≡ (if births_owed script (went_on s script r e Birth) then None else Some 0) = ap (λ ev. (went_on s script r e ev).owed) is in
            let by_step : q.by_step ≡ (λ x. not (writes e x) && r.by_step x) = ap (λ ev. (went_on s script r e ev).by_step) is in
            let asked : q.asked ≡ r.asked = ap (λ ev. (went_on s script r e ev).asked) is in
            record {
              by_step = λ x e. stays_born (atlas_of r) (atlas_of q) x wide.names (known.by_step x (kept_mark _ (r.by_step x) (ap (λ (f : ℕ → Bool). f x) (sym by_step) ∙ e)));
              asked = λ x e. stays_born (atlas_of r) (atlas_of q) x wide.names (known.asked x (ap (λ (f : ℕ → Bool). f x) (sym asked) ∙ e));
              changed = changed_kept r q e known wide newest;
              owed = λ x e. subst (λ n. IsTrue (is_born (atlas_of q) n)) (sym (owes_zero _ x (sym owes ∙ e))) refl;
            }
        | Step ↦ λ is.
            let wide = step_left r e is m h in
            let q = goes_on s script r e in
            let newest : q.newest ≡ r.newest = ap (λ ev. (went_on s script r e ev).newest) is in
            let owes : q.owed ≡ owed_by e.actor e.answer (locus_of (r.state e.actor).cell) = ap (λ ev. (went_on s script r e ev).owed) is in
            let by_step : q.by_step ≡ (λ x. writes e x || r.by_step x) = ap (λ ev. (went_on s script r e ev).by_step) is in
            let asked : q.asked ≡ with_asked (asked_by e.answer (locus_of (r.state e.actor).cell)) r.asked = ap (λ ev. (went_on s script r e ev).asked) is in
            let writer : (x : ℕ) → writes e x ≡ true → IsTrue (is_born (atlas_of q) x) = widened_born r q e m wide refl in
            let made = step_is s e.actor r.state e (subst (may s policy script r e) is m.1).4 in
            record {
              by_step = λ x f. elim (writes e x) as (λ b. writes e x ≡ b → (b || r.by_step x) ≡ true → IsTrue (is_born (atlas_of q) x)) [
                | true ↦ λ wrote g. writer x wrote
                | false ↦ λ none g. stays_born (atlas_of r) (atlas_of q) x wide.names (known.by_step x g)
              ] refl (ap (λ (f : ℕ → Bool). f x) (sym by_step) ∙ f);
              asked = λ x f. elim (asked_or (asked_by e.answer (locus_of (r.state e.actor).cell)) r.asked x (ap (λ (f : ℕ → Bool). f x) (sym asked) ∙ f)) as (λ _. IsTrue (is_born (atlas_of q) x)) [
                | inl by ↦ writer x (step_writes_asked s e.actor r.state e x made by)
                | inr was ↦ stays_born (atlas_of r) (atlas_of q) x wide.names (known.asked x was)
              ];
              changed = changed_kept r q e known wide newest;
              owed = λ x f. subst (λ n. IsTrue (is_born (atlas_of q) n)) (sym (owes_self e.actor e.answer (locus_of (r.state e.actor).cell) x (sym owes ∙ f)))
                  (stays_born (atlas_of r) (atlas_of q) e.actor wide.names (stepper_born r e is m h));
            }
        | SnapEvent ↦ λ is. subst IsKnown (sym (ap (went_on s script r e) is)) (record {
          by_step = λ x f. known.by_step x (unput r.by_step e.actor x f);
          asked = λ x f. known.asked x (unput r.asked e.actor x f);
          changed = λ x less. elim (x == e.actor) as (λ b. (x == e.actor) ≡ b → (if b then version_of r e.actor else r.newest x) < version_of r x → IsTrue (is_born (atlas_of r) x)) [
            | true ↦ λ at less. (let same = ap (version_of r) (eqb-true x e.actor at) in absurd (omega (arith, same, less)))
            | false ↦ λ at less. known.changed x less
          ] refl less;
          owed = known.owed;
        })
        | Stable ↦ λ is. subst IsKnown (sym (ap (went_on s script r e) is)) (record { by_step = λ x f. absurd (false≢true f); asked = λ x f. absurd (false≢true f); changed = λ x less. absurd (omega (arith, less)); owed = λ x e. none_some x e })
        | Tried ↦ λ is. subst IsKnown (sym (ap (went_on s script r e) is)) (record { by_step = known.by_step; asked = known.asked; changed = known.changed; owed = known.owed })
      ] refl

  known_over : (es : List Entry) (r : Run) → IsLegalFrom s policy script r es → IsStanding script r → IsKnown r → IsStanding script (run_after s script r es) × IsKnown (run_after s script r es)
  known_over [] r legal h known = (h, known)
  known_over (e ∷ es) r legal h known = known_over es (goes_on s script r e) legal.1 (standing_next s policy script rules r e legal.0 h) (known_next r e legal.0 h known)

  pub known_run : (w : KernelState) (es : List Entry) → All (NotLocus (atlas_in (w 0).cell)) script.containers → IsSound (λ x. (w x).cell) → IsLegalRun s policy w script es
      → IsStanding script (run_after s script (start_run w) es) × IsKnown (run_after s script (start_run w) es)
  known_run w es kinds sound legal = known_over es (start_run w) legal (record { sound = sound; kinds = λ _. kinds }) (record { by_step = λ x f. absurd (false≢true f); asked = λ x f. absurd (false≢true f); changed = λ x less. absurd (omega (arith, less)); owed = λ x e. none_some x e })

  -- WHO MAY ACT

  -- the first that passes does
  found_passes : (p : ℕ → Bool) (xs : List ℕ) (x : ℕ) → find p xs ≡ Some x → p x ≡ true
  found_passes p [] x e = none_some x e
  found_passes p (y ∷ xs) x e = elim (p y) as (λ b. p y ≡ b → (if b then Some y else find p xs) ≡ Some x → p x ≡ true) [
    | true ↦ λ is e. subst (λ n. p n ≡ true) (same_Some y x e) is
    | false ↦ λ is e. found_passes p xs x e
  ] refl e

  either_mark : (a b c : Bool) → (a && b || c) ≡ true → (a ≡ true) ⊎ (c ≡ true)
  either_mark true b c e = inl refl
  either_mark false b c e = inr e

  commit_born : (r : Run) (x : ℕ) → IsKnown r → MayCommit policy r x → IsTrue (is_born (atlas_of r) x)
  commit_born r x known m = elim m as (λ _. IsTrue (is_born (atlas_of r) x)) [
    | inl k ↦ elim (either_mark (r.by_step x) _ (r.asked x) k.0) as (λ _. IsTrue (is_born (atlas_of r) x)) [ inl e ↦ known.by_step x e | inr e ↦ known.asked x e ]
    | inr k ↦ known.changed x (ltb-true _ _ (found_passes (has_changed r) (upto 64) x k.1))
  ]

  -- the actor of what may follow is born, a newborn aside
  pub actor_born : (r : Run) (e : Entry) → IsStanding script r → IsKnown r → May s policy script r e → (e.event ≡ Birth → ⊥) → IsTrue (is_born (atlas_of r) e.actor)
  actor_born r e h known m other = elim e.event as (λ ev. e.event ≡ ev → may s policy script r e ev → IsTrue (is_born (atlas_of r) e.actor)) [
    | Birth ↦ λ is k. absurd (other is)
    | Step ↦ λ is k. stepper_born r e is m h
    | SnapEvent ↦ λ is k. commit_born r e.actor known k.1
    | Stable ↦ λ is k. known.owed e.actor k.0
    | Tried ↦ λ is k. commit_born r e.actor known k.1
  ] refl m.1

  -- what may follow leaves the names
  pub names_left : (r : Run) (e : Entry) → IsStanding script r → May s policy script r e → KeepsNames (atlas_of r) (atlas_of (goes_on s script r e))
  names_left r e h m = elim e.event as (λ ev. e.event ≡ ev → KeepsNames (atlas_of r) (atlas_of (goes_on s script r e))) [
    | Birth ↦ λ is. (birth_left r e is m).names
    | Step ↦ λ is. (step_left r e is m h).names
    | SnapEvent ↦ λ is. still (ap (λ ev. (went_on s script r e ev).state) is)
    | Stable ↦ λ is. still (ap (λ ev. (went_on s script r e ev).state) is)
    | Tried ↦ λ is. still (ap (λ ev. (went_on s script r e ev).state) is)
  ] refl
    where
      still : (goes_on s script r e).state ≡ r.state → KeepsNames (atlas_of r) (atlas_of (goes_on s script r e))
      still same = subst (λ (v : KernelState). KeepsNames (atlas_of r) (atlas_in (v 0).cell)) (sym same) (keeps_same (atlas_of r) (atlas_of r) refl refl)

  -- who acts is born then, a newborn too
  pub actor_left : (r : Run) (e : Entry) → IsStanding script r → IsKnown r → May s policy script r e → IsTrue (is_born (atlas_of (goes_on s script r e)) e.actor)
  actor_left r e h known m = elim e.event as (λ ev. e.event ≡ ev → IsTrue (is_born (atlas_of (goes_on s script r e)) e.actor)) [
    | Birth ↦ λ is. newborn_born r e is m
    | Step ↦ λ is. old (λ birth. apart_step (sym is ∙ birth))
    | SnapEvent ↦ λ is. old (λ birth. apart_snap (sym is ∙ birth))
    | Stable ↦ λ is. old (λ birth. apart_stable (sym is ∙ birth))
    | Tried ↦ λ is. old (λ birth. apart_tried (sym is ∙ birth))
  ] refl
    where
      old : (e.event ≡ Birth → ⊥) → IsTrue (is_born (atlas_of (goes_on s script r e)) e.actor)
      old other = stays_born (atlas_of r) (atlas_of (goes_on s script r e)) e.actor (names_left r e h m) (actor_born r e h known m other)

  -- and what it touches is born then
  pub touched_left : (r : Run) (e : Entry) → IsStanding script r → May s policy script r e → All (λ (t : Touch). IsTrue (is_born (atlas_of (goes_on s script r e)) t.entity)) e.touched
  touched_left r e h m = elim e.event as (λ ev. e.event ≡ ev → may s policy script r e ev → All (λ (t : Touch). IsTrue (is_born (atlas_of (goes_on s script r e)) t.entity)) e.touched) [
    | Birth ↦ λ is k. each_born (atlas_of (goes_on s script r e)) e.touched (birth_left r e is m).touched
    | Step ↦ λ is k. each_born (atlas_of (goes_on s script r e)) e.touched (step_left r e is m h).touched
    | SnapEvent ↦ λ is k. none k.0 none_born
    | Stable ↦ λ is k. none k.2 none_born
    | Tried ↦ λ is k. none k.0 none_born
  ] refl m.1
    where
      none_born : All (λ (t : Touch). IsTrue (is_born (atlas_of (goes_on s script r e)) t.entity)) []
      none_born = All-nil (λ (t : Touch). IsTrue (is_born (atlas_of (goes_on s script r e)) t.entity))

      none : {f : Entry} → e ≡ f → All (λ (t : Touch). IsTrue (is_born (atlas_of (goes_on s script r e)) t.entity)) f.touched → All (λ (t : Touch). IsTrue (is_born (atlas_of (goes_on s script r e)) t.entity)) e.touched
      none {f} same all = subst (λ (g : Entry). All (λ (t : Touch). IsTrue (is_born (atlas_of (goes_on s script r e)) t.entity)) g.touched) (sym same) all
