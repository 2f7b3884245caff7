-- A step: the entry may follow, and the checker stands behind it.
use Rattle.std.proofs.Common.{◌≡◌, ℕ, ◌+◌, ◌-◌, ◌<◌, ◌≤◌, Bool, true, false, not, ◌&&◌, ◌||◌, ◌==◌, if◌then◌else◌, List, [], ◌∷◌, ◌++◌, Option, Some, None, is_some, option_map, slice_index, refl, sym, ap, subst, ◌∙◌, arith}
use Rattle.std.specs.List.{list_any}
use Rattle.std.proofs.lemmas.Bool.{false≢true}
use Rattle.std.proofs.lemmas.List.{get_or_default}
use Rattle.std.proofs.lemmas.List.Sums.{count_by-le-length}
use Rattle.base_types.specs.declared.histories.Answer.{Answer}
use Rattle.base_types.specs.declared.histories.Answer.TheVariants.{Quiet, Hop, Reply as Replied, Read, Print as Printed}
use Rattle.base_types.specs.declared.histories.Entry.{Entry}
use Rattle.base_types.specs.declared.histories.Event.{Event}
use Rattle.base_types.specs.declared.histories.Event.TheVariants.{Step}
use Rattle.base_types.specs.declared.histories.Touch.{Touch}
use Rattle.base_types.specs.declared.instructions.Reply.TheVariants.{Ok}
use Rattle.plain_states.specs.model_kernel.Changes.{Change, carried}
use Rattle.plain_states.specs.model_kernel.Histories.{May, Policy, Run, after_step, asked_by, by_event, event_of, every_of, goes_on, is_due, locus_in, may as may_be, noting, owed_by, start_run, went_on, with_asked, writes}
use Rattle.plain_states.specs.model_kernel.LocalEvents.{touch_at}
use Rattle.plain_states.specs.model_kernel.Parts.{after, after_entry, is_event, next_of}
use Rattle.plain_states.specs.model_kernel.Scripts.{Script, next_name}
use Rattle.plain_states.specs.model_kernel.State.{Cell, KernelState, LocusState, Supply}
use Rattle.plain_states.specs.model_kernel.Steps.{atlas_in, numbered_change, running, step, step_change}
use Rattle.plain_states.specs.model_kernel.Words.{put}
use Rattle.plain_states.proofs.model_kernel_lemmas.LegalRuns.{next_legal, state_after}
use Rattle.plain_states.specs.model_kernel.Soundness.{IsSound}
use Rattle.plain_states.specs.Born.{AreEdges}
use Rattle.plain_states.specs.Events.{AreFewVersions, Has, StepsTo}
use Rattle.plain_states.specs.model_sound_runs.Names.{KeepsNames}
use Rattle.plain_states.specs.Plains.{atlas_of, cells_of}
use Rattle.plain_states.specs.declared.plain.Plain.{Plain}
use Rattle.trace_step_facts.proofs.plain_facts_lemmas.Goings.{state_is, step_entry}
use Rattle.trace_step_facts.proofs.plain_facts_lemmas.Keeping.{next_kept}
use Rattle.model_run_rules.proofs.model_run_laws_lemmas.Tellings.{versions_told}
use Rattle.plain_states.proofs.model_sound_runs_lemmas.Lengths.{length_bound}
use Rattle.plain_states.proofs.model_sound_runs_lemmas.Standing.{IsStanding, actor_range, standing_over, under_64}
use Rattle.model_run_rules.proofs.model_run_laws_lemmas.Writing.{step_is}
use Rattle.trace_state.specs.Clocks.{clock_at, joined_in}
use Rattle.trace_step_facts.specs.data_cut_facts.Searches.{mark_at}
use Rattle.trace_state.specs.Flags.{wrote_in}
use Rattle.trace_state.specs.declared.clocks.Clocks.{Clocks}
use Rattle.trace_state.specs.declared.wishes.Wishes.{Wishes}
use Rattle.trace_steps.specs.Asking.{due_at, if_ok}
use Rattle.trace_steps.specs.Standing.{CanStep, Keeps, Stands}
use Rattle.trace_step_facts.specs.Standing.{IsRunFrom, run_of}
use Rattle.trace_steps.specs.declared.checker.Checker.{Checker}
use Rattle.trace_step_facts.proofs.Clocking.{clocks_next, rest_low, touch_low}
use Rattle.trace_steps.proofs.Running.{stands_on}
use Rattle.trace_step_facts.proofs.Wishing.{step_wishes}
use Rattle.trace_steps.proofs.Marking.{none_of}

-- ANSWERS

none_ok : (a : Answer) → if_ok a None ≡ None
none_ok Quiet = refl
none_ok Hop = refl
none_ok (Read v) = refl
none_ok (Printed v) = refl
none_ok (Replied Ok) = refl
none_ok (Replied r) = refl

pub owed_ok : (l : ℕ) (a : Answer) (o : Option LocusState) → if_ok a (owed_by l (Replied Ok) o) ≡ owed_by l a o
owed_ok l a None = none_ok a
owed_ok l Quiet (Some st) = refl
owed_ok l Hop (Some st) = refl
owed_ok l (Read v) (Some st) = refl
owed_ok l (Printed v) (Some st) = refl
owed_ok l (Replied Ok) (Some st) = refl
owed_ok l (Replied r) (Some st) = refl

pub asked_ok : (a : Answer) (o : Option LocusState) → if_ok a (asked_by (Replied Ok) o) ≡ asked_by a o
asked_ok a None = none_ok a
asked_ok Quiet (Some st) = refl
asked_ok Hop (Some st) = refl
asked_ok (Read v) (Some st) = refl
asked_ok (Printed v) (Some st) = refl
asked_ok (Replied Ok) (Some st) = refl
asked_ok (Replied r) (Some st) = refl

-- VERSIONS

-- no version is near its end
pub few_versions : (s : Supply) (policy : Policy) (script : Script) (w : KernelState) (es : List Entry) (cells : ℕ → Cell) (vs : List ℕ) → IsRunFrom s policy script w es → Has (run_of s script w es).state cells vs → AreFewVersions vs
few_versions s policy script w es cells vs h has k d inside =
    let told = versions_told s policy script w es k h.legal in
    let state : (run_of s script w es).state k ≡ after (event_of s script) w es k = ap (λ (v : KernelState). v k) (state_after s policy script (start_run w) es) in
    let same = ap (λ b. b.version) state in
    let number = has.numbers k in
    let most = count_by-le-length (λ (e : Entry). writes e k) es in
    let long = length_bound s policy script h.rules w es h.kinds h.sound h.legal in
    let low = h.low k in
    let top = h.rules.steps.1 in
    rw (get_or_default vs k d 0 inside) (omega (arith, told, same, number, most, long, low, top))

-- DUE WISHES

due_same : (s : Supply) (policy : Policy) (script : Script) (r : Run) (c : Checker) (everies : List ℕ) (x : ℕ) → Keeps s script r c → ((x : ℕ) → x < 64 → every_of (cells_of s c.state x) ≡ slice_index everies x) → x < 64
    → is_due policy r x ≡ due_at policy c.wishes everies c.versions x
due_same s policy script r c everies x k intervals low =
    let every : every_of (r.state x).cell ≡ slice_index everies x = ap every_of (k.has.cells x) ∙ intervals x low in
    λ i. (k.wishes.by_step x low i && policy (every i) (k.has.numbers x i - k.wishes.newest x low i) || k.wishes.asked x low i) && not (k.wishes.was_full x low i)

any_due_same : (f g : ℕ → Bool) (ts : List Touch) → ((x : ℕ) → x < 64 → f x ≡ g x) → ((x : ℕ) → 64 ≤ x → touch_at ts x ≡ None) → list_any (λ (t : Touch). f t.entity) ts ≡ list_any (λ (t : Touch). g t.entity) ts
any_due_same f g [] same low = refl
any_due_same f g (t ∷ ts) same low = λ i. same t.entity (touch_low t ts low) i || any_due_same f g ts same (rest_low t ts low) i

module _ (s : Supply) (policy : Policy) (script : Script) (w : KernelState) (es : List Entry) (old : Checker) (h : Stands s policy script w old es) (untried : old.tried ≡ false) (l : ℕ) where
  -- what the run stands on, as the laws ask for it
  pub sound_standing : IsStanding script (run_of s script w es)
  sound_standing = standing_over s policy script h.run.rules es (start_run w) h.run.legal (record { sound = h.run.sound; kinds = λ _. h.run.kinds })

  -- NO STEP

  -- a locus that isn't running makes none
  pub idle_refuses : running (cells_of s old.state l) ≡ None → (e : Entry) → e.event ≡ Step → e.actor ≡ l → May s policy script (run_of s script w es) e → ⊥
  unfolding step_change
  idle_refuses idle e ev by m =
      let r = run_of s script w es in
      let k = subst (may_be s policy script r e) ev m.1 in
      let none : step s l r.state ≡ None = ap (λ o. option_map (λ (c : ℕ × Change). carried r.state Step c.0 c.1) (option_map (numbered_change s l r.state) o)) (ap running (h.keeps.has.cells l) ∙ idle) in
      let some : option_map (λ (q : Entry × KernelState). q.0) (step s l r.state) ≡ Some e = subst (λ a. option_map (λ (q : Entry × KernelState). q.0) (step s a r.state) ≡ Some e) by k.4 in
      apart (sym (ap (option_map (λ (q : Entry × KernelState). q.0)) none) ∙ some)
    where
      apart : None ≡ Some e → ⊥
      apart e = cc

  -- what may follow as a step of the locus can
  pub can_of : (e : Entry) → e.event ≡ Step → e.actor ≡ l → May s policy script (run_of s script w es) e → CanStep old script.steps l
  can_of e ev by m =
      let r = run_of s script w es in
      let k = subst (may_be s policy script r e) ev m.1 in
      let made : option_map (λ (q : Entry × KernelState). q.0) (step s l r.state) ≡ Some e = subst (λ a. option_map (λ (q : Entry × KernelState). q.0) (step s a r.state) ≡ Some e) by k.4 in
      let range = actor_range s l r.state e sound_standing.sound (step_is s l r.state e made) in
      record {
        born = sym h.keeps.marks.births ∙ k.0;
        owed = sym h.keeps.marks.owed ∙ k.1;
        locus = range.0;
        made = subst (λ n. n < script.steps) (h.keeps.marks.made l range.1) (subst (λ a. r.steps a < script.steps) by k.2);
      }

  -- A STEP
  module _ (st : Plain) (vs : List ℕ) (e : Entry) (makes : StepsTo s l (cells_of s old.state) old.versions e (cells_of s st) vs) where
    made_here : (v : KernelState) × (step s l (run_of s script w es).state ≡ Some (e, v)) × Has v (cells_of s st) vs
    made_here =
        let r = run_of s script w es in
        let m = makes (λ x. (r.state x).stamp) in
        (m.0, ap (step s l) (state_is r.state (cells_of s old.state) old.versions h.keeps.has) ∙ m.1, m.2)

    told : option_map (λ (q : Entry × KernelState). q.0) (step s l (run_of s script w es).state) ≡ Some e
    told = ap (option_map (λ (q : Entry × KernelState). q.0)) made_here.1

    pub named : (e.event ≡ Step) × (e.actor ≡ l)
    named = step_entry s l (run_of s script w es).state made_here.0 e made_here.1

    low_touches : (x : ℕ) → 64 ≤ x → touch_at e.touched x ≡ None
    low_touches = under_64 s l (run_of s script w es).state e sound_standing.sound (step_is s l (run_of s script w es).state e told)

    due_is : (everies : List ℕ) → ((x : ℕ) → x < 64 → every_of (cells_of s old.state x) ≡ slice_index everies x)
        → list_any (λ (t : Touch). is_due policy (run_of s script w es) t.entity) e.touched ≡ list_any (λ (t : Touch). due_at policy old.wishes everies old.versions t.entity) e.touched
    due_is everies intervals =
        any_due_same (is_due policy (run_of s script w es)) (due_at policy old.wishes everies old.versions) e.touched (λ x low. due_same s policy script (run_of s script w es) old everies x h.keeps intervals low) low_touches

    -- a due wish forbids it
    pub due_refuses : (everies : List ℕ) → ((x : ℕ) → x < 64 → every_of (cells_of s old.state x) ≡ slice_index everies x)
        → list_any (λ (t : Touch). due_at policy old.wishes everies old.versions t.entity) e.touched ≡ true
        → (f : Entry) → f.event ≡ Step → f.actor ≡ l → May s policy script (run_of s script w es) f → ⊥
    due_refuses everies intervals due f ev by m =
        let r = run_of s script w es in
        let k = subst (may_be s policy script r f) ev m.1 in
        let made : option_map (λ (q : Entry × KernelState). q.0) (step s l r.state) ≡ Some f = subst (λ a. option_map (λ (q : Entry × KernelState). q.0) (step s a r.state) ≡ Some f) by k.4 in
        let same : f ≡ e = one (sym made ∙ told) in
        false≢true (sym (subst (λ (d : Entry). list_any (λ (t : Touch). is_due policy r t.entity) d.touched ≡ false) same k.3) ∙ due_is everies intervals ∙ due)
      where
        one : Some f ≡ Some e → f ≡ e
        one e = cc

    pub step_may : (everies : List ℕ) → l < 64 → CanStep old script.steps l → ((x : ℕ) → x < 64 → every_of (cells_of s old.state x) ≡ slice_index everies x)
        → list_any (λ (t : Touch). due_at policy old.wishes everies old.versions t.entity) e.touched ≡ false → May s policy script (run_of s script w es) e
    step_may everies low can intervals due =
        let r = run_of s script w es in
        let few : r.steps l < script.steps = subst (λ n. n < script.steps) (sym (h.keeps.marks.made l low)) can.made in (
          none_of r.tried (h.keeps.marks.tried ∙ untried),
          subst (may_be s policy script r e) (sym named.0) (
            h.keeps.marks.births ∙ can.born,
            h.keeps.marks.owed ∙ can.owed,
            subst (λ a. r.steps a < script.steps) (sym named.1) few,
            due_is everies intervals ∙ due,
            subst (λ a. option_map (λ (q : Entry × KernelState). q.0) (step s a r.state) ≡ Some e) (sym named.1) told,
          ),
        )

    left : after_entry (event_of s script) (run_of s script w es).state e ≡ made_here.0
    left =
        let r = run_of s script w es in
        ap (λ (k : Event). if is_event k then next_of (event_of s script) r.state (by_event s script k e.actor r.state) else r.state) named.0
        ∙ ap (λ a. next_of (event_of s script) r.state (step s a r.state)) named.1
        ∙ ap (next_of (event_of s script) r.state) made_here.1

    goes : goes_on s script (run_of s script w es) e ≡ noting (after_step (run_of s script w es) e (locus_in ((run_of s script w es).state l).cell) made_here.0)
    goes =
        let r = run_of s script w es in
        ap (went_on s script r e) named.0 ∙ (λ i. noting (after_step r e (locus_in (r.state (named.1 i)).cell) (left i)))

    pub step_stands : May s policy script (run_of s script w es) e → l < 64 → IsSound (cells_of s st) → AreEdges st.atlas.edges.items → KeepsNames (atlas_of old.state.atlas) (atlas_of st.atlas) → old.births_left ≡ false
        → (clocks : Clocks) (wishes : Wishes) (made : List ℕ) (owed asked : Option ℕ)
        → ((x y : ℕ) → x < 64 → clock_at clocks x y ≡ (if wrote_in e.touched x then joined_in (clock_at old.clocks) e.touched y else clock_at old.clocks x y))
        → ((y : ℕ) → slice_index made y ≡ put (slice_index old.made) l (slice_index old.made l + 1) y)
        → owed_by l e.answer (locus_in (cells_of s old.state l)) ≡ owed → asked_by e.answer (locus_in (cells_of s old.state l)) ≡ asked
        → ((x : ℕ) → x < 64 → mark_at wishes.by_step x ≡ (wrote_in e.touched x || mark_at old.wishes.by_step x))
        → ((x : ℕ) → mark_at wishes.asked x ≡ with_asked asked (mark_at old.wishes.asked) x)
        → ((x : ℕ) → mark_at wishes.was_full x ≡ (not (wrote_in e.touched x) && mark_at old.wishes.was_full x || mark_at old.wishes.full x))
        → wishes.newest ≡ old.wishes.newest → wishes.full ≡ old.wishes.full
        → Stands s policy script w (record old { state = st; versions = vs; clocks = clocks; wishes = wishes; made = made; began = false; owed = owed }) (es ++ e ∷ [])
    step_stands may low sound edges names born clocks wishes made owed asked joins counts owes asks by_step was_asked was_full newest full =
        let r = run_of s script w es in
        let v = made_here.0 in
        let cell = h.keeps.has.cells l in
        let q : Run = noting (after_step r e (locus_in (r.state l).cell) v) in
        let new : Checker = record old { state = st; versions = vs; clocks = clocks; wishes = wishes; made = made; began = false; owed = owed } in
        let none : is_some (next_name (atlas_of old.state.atlas) script) ≡ false = ap (λ (k : Cell). is_some (next_name (atlas_in k) script)) (sym (h.keeps.has.cells 0)) ∙ h.keeps.marks.births ∙ born in
        let keeps : Keeps s script q new = record {
          has = record { cells = made_here.2.cells; numbers = made_here.2.numbers };
          sound = sound;
          edges = edges;
          clocks = clocks_next s policy script r q e old.clocks clocks (next_legal s policy script r e may) low_touches (sym left) joins h.keeps.clocks;
          wishes = step_wishes r e (locus_in (r.state l).cell) v asked old.wishes wishes h.keeps.wishes (ap (λ (k : Cell). asked_by e.answer (locus_in k)) cell ∙ asks) by_step was_asked was_full newest full;
          cuts = record { start = h.keeps.cuts.start; cut = h.keeps.cuts.cut; recs = h.keeps.cuts.recs };
          marks = record {
            began = refl;
            owed = (λ i. owed_by (named.1 i) e.answer (locus_in (cell i))) ∙ owes;
            short = h.keeps.marks.short;
            made = λ y lt. (λ i. put r.steps (named.1 i) (r.steps (named.1 i) + 1) y) ∙ counted y lt ∙ sym (counts y);
            births = ap (λ (k : Cell). is_some (next_name (atlas_in k) script)) (made_here.2.cells 0) ∙ next_kept (atlas_of old.state.atlas) (atlas_of st.atlas) script names none ∙ sym born;
            tried = h.keeps.marks.tried;
          };
          kinds = λ b. absurd (false≢true b);
        } in
        stands_on s policy script w old new es e h may (subst (λ (k : Run). Keeps s script k new) (sym goes) keeps)
      where
        counted : (y : ℕ) → y < 64 → put (run_of s script w es).steps l ((run_of s script w es).steps l + 1) y ≡ put (slice_index old.made) l (slice_index old.made l + 1) y
        counted y lt = λ i. if y == l then h.keeps.marks.made l low i + 1 else h.keeps.marks.made y lt i
