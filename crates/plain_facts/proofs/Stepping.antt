-- One look at a locus: its step, and what the run is after it.
use Rattle.std.proofs.Common.{◌≡◌, ℕ, ◌+◌, ◌-◌, ◌*◌, ◌<◌, ◌≤◌, Bool, true, false, ◌&&◌, ◌==◌, nat_lt, if◌then◌else◌, IsTrue, List, [], ◌∷◌, ◌++◌, length, All, Option, Some, None, is_some, sum_by, slice_index, slice_set, slice_get, unwrap_or, refl, sym, ap, subst, ◌∙◌, arith, eqb-true, eq-eqb, get_or}
use Rattle.std.proofs.lemmas.Bool.Decides.{nat_tests}
use Rattle.std.proofs.lemmas.List.{get_or-set_same, get_or-set_other, get_or_default, length-set, length-append}
use Rattle.std.proofs.lemmas.List.Sums.{sum_by-le, sum_by-set}
use Rattle.base_types.specs.declared.histories.Entry.{Entry}
use Rattle.base_types.specs.declared.histories.Event.TheVariants.{Stable}
use Rattle.base_types.specs.declared.instructions.Instr.{Instr}
use Rattle.base_types.specs.declared.instructions.Instr.TheVariants.{Halt}
use Rattle.model_kernel.specs.State.{Supply, LocusState, Cell, LocusCell, KernelState}
use Rattle.model_kernel.specs.Histories.{Run, asks, births_owed, mark, start_run}
use Rattle.model_kernel.specs.Refusals.{instr_at}
use Rattle.model_kernel.specs.Scripts.{Script, next_name}
use Rattle.model_kernel.specs.Serial.{can_step, owed_stable, turn}
use Rattle.model_kernel.specs.Soundness.{IsSound}
use Rattle.model_kernel.specs.Steps.{atlas_in, running, step}
use Rattle.model_kernel.specs.Words.{put}
use Rattle.plain_states.proofs.SoundLemmas.{all_at}
use Rattle.plain_states.specs.Events.{AreFewVersions, Has, Stays, StepsTo, state_with}
use Rattle.plain_states.specs.model_sound_runs.Names.{KeepsNames}
use Rattle.plain_facts.specs.Looking.{is_stabilise, owed_after, wants_stable}
use Rattle.plain_facts.specs.Snaps.{HasNoSnaps, code_of, has_no_snap, is_no_snap}
use Rattle.plain_facts.specs.Standing.{IsLow, IsQuiet, Reaches, run_from, settled}
use Rattle.plain_facts.proofs.Coding.{step_coded}
use Rattle.plain_facts.proofs.Goings.{asks_nothing, below-push, goes_on_step, legal-push, may_step, state_is, step_rise, stepped, turn_step}
use Rattle.plain_facts.proofs.Keeping.{next_kept}
use Rattle.plain_facts.proofs.Openings.{run_more}
use Rattle.model_kernel.proofs.StepTallies.{running_is}

-- RUNNING LOCI

-- a number that isn't idle has a running locus
pub runs : (k : Cell) → (running k ≡ None → ⊥) → (st : LocusState) × (running k ≡ Some st) × (k ≡ LocusCell st)
runs k busy = by_running (running k) refl
  where
    by_running : (o : Option LocusState) → running k ≡ o → (st : LocusState) × (running k ≡ Some st) × (k ≡ LocusCell st)
    by_running (Some st) is = (st, is, running_is k st is)
    by_running None is = absurd (busy is)

-- the instruction of a locus without snaps is none
no_snap_at : (st : LocusState) → IsTrue (has_no_snap st.code) → is_no_snap (instr_at st) ≡ true
no_snap_at st calm = by_get (slice_get st.code st.place) refl
  where
    by_get : (o : Option Instr) → slice_get st.code st.place ≡ o → is_no_snap (instr_at st) ≡ true
    by_get (Some i) e = ap (λ o. is_no_snap (unwrap_or o Halt)) e ∙ all_at is_no_snap st.code st.place i calm e
    by_get None e = ap (λ o. is_no_snap (unwrap_or o Halt)) e

-- NUMBERS

pub sum-raised : (made : List ℕ) (i : ℕ) → i < length made → sum_by (λ n. n) (slice_set made i (slice_index made i + 1)) ≡ sum_by (λ n. n) made + 1
sum-raised made i h = omega (arith, sum_by-set (λ n. n) made i (slice_index made i + 1) 0 h)

pub set_limit : (made : List ℕ) (i top : ℕ) → i < length made → slice_index made i < top → All (λ n. n ≤ top) made → All (λ n. n ≤ top) (slice_set made i (slice_index made i + 1))
set_limit made i top h lt all k d inside =
    elim (i == k) as (λ b. (i == k) ≡ b → get_or (slice_set made i (slice_index made i + 1)) k d ≤ top) [
      | true ↦ λ is. subst (λ k. get_or (slice_set made i (slice_index made i + 1)) k d ≤ top) (eqb-true i k is) (rw (get_or-set_same made i (slice_index made i + 1) d h) (omega arith))
      | false ↦ λ is.
          let in_made : k < length made = subst (λ n. k < n) (length-set made i (slice_index made i + 1)) inside in
          rw (get_or-set_other made i k (slice_index made i + 1) d (λ e. let t = eq-eqb i k (sym e) in cc)) (all k d in_made)
    ] refl

-- all steps that are made are no more than the limits of all loci
pub few_made : (made : List ℕ) (top : ℕ) → All (λ n. n ≤ top) made → sum_by (λ n. n) made ≤ length made * top
few_made made top all = sum_by-le (λ n. n) top made all

-- A STEP

-- what one step makes of a run
pub record IsStep (s : Supply) (script : Script) (w : KernelState) (l : ℕ) (new : ℕ → Cell) (vs made : List ℕ) (owed : Option ℕ) (es : List Entry) (e : Entry) : Type 0 where
  pub reaches : Reaches s script w new vs made owed (es ++ e ∷ [])
  pub looked : turn s script (run_from s script w es) l ≡ e ∷ owed_stable owed
  pub born : births_owed script (run_from s script w (es ++ e ∷ [])) ≡ false

-- no snap comes into a code by a step
calm_step : (s : Supply) (l : ℕ) (w v : KernelState) (e : Entry) (cells new : ℕ → Cell) → step s l w ≡ Some (e, v) → ((x : ℕ) → (w x).cell ≡ cells x) → ((x : ℕ) → (v x).cell ≡ new x) → HasNoSnaps cells → HasNoSnaps new
calm_step s l w v e cells new made old now calm x =
    subst (λ (k : Cell). IsTrue (has_no_snap (code_of k))) (now x) (step_coded (λ code. IsTrue (has_no_snap code)) refl s l w v e made (λ y. subst (λ (k : Cell). IsTrue (has_no_snap (code_of k))) (sym (old y)) (calm y)) x)

pub step_made : (s : Supply) (script : Script) (w : KernelState) (cells new : ℕ → Cell) (us vs made : List ℕ) (es : List Entry) (l : ℕ) (e : Entry)
    → Reaches s script w cells us made None es → births_owed script (run_from s script w es) ≡ false → 41 ≤ l → l < 64 → slice_index made (l - 41) < script.steps → (running (cells l) ≡ None → ⊥)
    → StepsTo s l cells us e new vs → IsSound new → KeepsNames (atlas_in (cells 0)) (atlas_in (new 0)) → IsLow e
    → IsStep s script w l new vs (slice_set made (l - 41) (slice_index made (l - 41) + 1)) (owed_after l e.answer (wants_stable (cells l))) es e
step_made s script w cells new us vs made es l e t born high low few busy steps sound names below =
    let r = run_from s script w es in
    let run = runs (cells l) busy in
    let st = run.0 in
    let m = steps (λ x. (r.state x).stamp) in
    let v = m.0 in
    let here : r.state ≡ state_with cells us (λ x. (r.state x).stamp) = state_is r.state cells us t.has in
    let made_here : step s l r.state ≡ Some (e, v) = ap (step s l) here ∙ m.1 in
    let cell : (r.state l).cell ≡ LocusCell st = t.has.cells l ∙ run.2 in
    let runs_here : running (r.state l).cell ≡ Some st = ap running (t.has.cells l) ∙ run.1 in
    let blind : asks e.answer (instr_at st) st ≡ None = asks_nothing e.answer (instr_at st) st (no_snap_at st (subst (λ (k : Cell). IsTrue (has_no_snap (code_of k))) run.2 (t.calm l))) in
    let few_here : r.steps l < script.steps = subst (λ n. n < script.steps) (sym (t.steps l high low)) few in
    let after : run_from s script w (es ++ e ∷ []) ≡ stepped r e l v (owed_after l e.answer (is_stabilise (instr_at st))) = run_more s script w es e ∙ goes_on_step s script r e v l st cell blind made_here in
    let owed : owed_after l e.answer (is_stabilise (instr_at st)) ≡ owed_after l e.answer (wants_stable (cells l)) = ap (λ (k : Cell). owed_after l e.answer (wants_stable k)) (sym run.2) in
    let before : is_some (next_name (atlas_in (cells 0)) script) ≡ false = ap (λ (k : Cell). is_some (next_name (atlas_in k) script)) (sym (t.has.cells 0)) ∙ born in
    let calm : HasNoSnaps new = calm_step s l r.state v e cells new made_here t.has.cells m.2.cells t.calm in
    let in_made : l - 41 < length made = (let n = t.long in omega (arith, n)) in
    record {
      reaches = record {
        legal = legal-push s script (start_run w) es e t.legal (may_step s script r e v l t.quiet born few_here made_here);
        has = subst (λ (q : Run). Has q.state new vs) (sym after) m.2;
        quiet = subst (λ (q : Run). IsQuiet q (owed_after l e.answer (wants_stable (cells l)))) (sym after) (record { owes = owed; short = t.quiet.short; tried = t.quiet.tried; asked = t.quiet.asked });
        steps = λ k h g. ap (λ (q : Run). q.steps k) after ∙ counted k h g in_made;
        limit = set_limit made (l - 41) script.steps in_made few t.limit;
        long = length-set made (l - 41) (slice_index made (l - 41) + 1) ∙ t.long;
        count = (let k = t.count in let a = sum-raised made (l - 41) in_made in let b = length-append es (e ∷ []) in let c = settled_length (owed_after l e.answer (wants_stable (cells l))) (es ++ e ∷ []) in omega (arith, k, a, b, c));
        low = λ x. (let a = m.2.numbers x in let b = step_rise s l r.state v e x made_here in let c = t.has.numbers x in let d = t.low x in let f = length-append es (e ∷ []) in omega (arith, a, b, c, d, f));
        start = t.start;
        sound = sound;
        calm = calm;
        rules = t.rules;
        below = below-push es e t.below below;
      };
      looked = turn_step s script r e v l st cell runs_here blind few_here made_here ∙ ap (λ (o : Option ℕ). e ∷ owed_stable o) owed;
      born = ap (births_owed script) after ∙ ap (λ (k : Cell). is_some (next_name (atlas_in k) script)) (m.2.cells 0) ∙ next_kept (atlas_in (cells 0)) (atlas_in (new 0)) script names before;
    }
  where
    counted : (k : ℕ) → 41 ≤ k → k < 64 → l - 41 < length made → put (run_from s script w es).steps l ((run_from s script w es).steps l + 1) k ≡ slice_index (slice_set made (l - 41) (slice_index made (l - 41) + 1)) (k - 41)
    counted k h g in_made =
        elim (k == l) as (λ b. (k == l) ≡ b → (if b then (run_from s script w es).steps l + 1 else (run_from s script w es).steps k) ≡ slice_index (slice_set made (l - 41) (slice_index made (l - 41) + 1)) (k - 41)) [
          | true ↦ λ is.
              ap (λ n. n + 1) (t.steps l high low) ∙ sym (get_or-set_same made (l - 41) (slice_index made (l - 41) + 1) 0 in_made)
              ∙ ap (λ n. slice_index (slice_set made (l - 41) (slice_index made (l - 41) + 1)) (n - 41)) (sym (eqb-true k l is))
          | false ↦ λ is.
              t.steps k h g ∙ sym (get_or-set_other made (l - 41) (k - 41) (slice_index made (l - 41) + 1) 0 (λ e. let same : k ≡ l = omega arith in let c = eq-eqb k l same in cc))
        ] refl

    settled_length : (o : Option ℕ) (fs : List Entry) → length (settled o fs) ≤ length fs + 1
    settled_length None fs = omega arith
    settled_length (Some actor) fs = let n = length-append fs (mark Stable actor 0 ∷ []) in omega (arith, n)

-- WHAT A STEP RESTS ON

-- no version is near its end
pub few_versions : (s : Supply) (script : Script) (w : KernelState) (cells : ℕ → Cell) (us made : List ℕ) (o : Option ℕ) (es : List Entry) → Reaches s script w cells us made o es → AreFewVersions us
few_versions s script w cells us made o es t k d inside =
    let bound : sum_by (λ n. n) made ≤ length made * script.steps = few_made made script.steps t.limit in
    let top = t.rules.steps.1 in
    let total : length made * script.steps ≤ 23 * 40000 = rw t.long (omega (arith, top)) in
    rw (get_or_default us k d 0 inside) (let a = t.low k in let b = t.count in let c = t.start k in let n = longer o in omega (arith, a, b, c, n, bound, total))
  where
    longer : (o : Option ℕ) → length es ≤ length (settled o es)
    longer None = omega arith
    longer (Some actor) = let n = length-append es (mark Stable actor 0 ∷ []) in omega (arith, n)

-- A LOOK THAT CHANGES NOTHING

pub reaches_stay : (s : Supply) (script : Script) (w : KernelState) (cells new : ℕ → Cell) (us vs made : List ℕ) (o : Option ℕ) (es : List Entry) → Reaches s script w cells us made o es → Stays cells us new vs → IsSound new → Reaches s script w new vs made o es
reaches_stay s script w cells new us vs made o es t st sound = record {
  legal = t.legal;
  has = record { cells = λ x. t.has.cells x ∙ sym (st.cells x); numbers = λ x. t.has.numbers x ∙ ap (λ ws. slice_index ws x) (sym st.versions) };
  quiet = t.quiet;
  steps = t.steps;
  limit = t.limit;
  long = t.long;
  count = t.count;
  low = λ x. subst (λ ws. slice_index ws x ≤ (w x).version + length es) (sym st.versions) (t.low x);
  start = t.start;
  sound = sound;
  calm = λ x. subst (λ (k : Cell). IsTrue (has_no_snap (code_of k))) (sym (st.cells x)) (t.calm x);
  rules = t.rules;
  below = t.below;
}

not_below : (n m : ℕ) → m ≤ n → nat_lt n m ≡ false
not_below n m h = grind (arith, nat_tests)

-- a locus that has made its steps is idle
pub idle_spent : (s : Supply) (script : Script) (w : KernelState) (cells : ℕ → Cell) (us made : List ℕ) (es : List Entry) (l : ℕ) → Reaches s script w cells us made None es → 41 ≤ l → l < 64 → script.steps ≤ slice_index made (l - 41)
    → can_step script (run_from s script w es) l ≡ false
idle_spent s script w cells us made es l t high low spent =
    let r = run_from s script w es in
    let past : nat_lt (r.steps l) script.steps ≡ false = not_below (r.steps l) script.steps (let e = t.steps l high low in omega (arith, e, spent)) in
    ap (λ b. is_some (running (r.state l).cell) && b) past ∙ and_false (is_some (running (r.state l).cell))
  where
    and_false : (b : Bool) → (b && false) ≡ false
    and_false true = refl
    and_false false = refl

-- so is one that isn't running
pub idle_still : (s : Supply) (script : Script) (w : KernelState) (cells : ℕ → Cell) (us made : List ℕ) (es : List Entry) (l : ℕ) → Reaches s script w cells us made None es → running (cells l) ≡ None → can_step script (run_from s script w es) l ≡ false
idle_still s script w cells us made es l t idle =
    let r = run_from s script w es in
    ap (λ o. is_some o && nat_lt (r.steps l) script.steps) (ap running (t.has.cells l) ∙ idle)
