-- At each place of a legal run the state is sound, and what the next entry touches has a number below 64.
use Rattle.std.proofs.Common.{◌≡◌, ℕ, ◌≤◌, ◌<◌, true, false, List, [], ◌∷◌, Some, None, option_map, IsTrue, refl, sym, ap, subst, ◌∙◌, arith}
use Rattle.std.specs.List.{All}
use Rattle.std.proofs.lemmas.Bool.{false≢true}
use Rattle.std.proofs.lemmas.Bool.Decides.{nat_tests}
use Rattle.script_types.specs.base_types.declared.histories.Entry.{Entry}
use Rattle.script_types.specs.base_types.declared.histories.Event.TheVariants.{Birth, Step, Snap as SnapEvent, Stable, Tried}
use Rattle.script_types.specs.model_kernel.State.{Supply, AtlasState, KernelState}
use Rattle.script_types.specs.model_kernel.Scripts.{Script}
use Rattle.script_types.specs.model_kernel.Soundness.{IsSound, is_born_locus}
use Rattle.script_types.specs.model_kernel.Steps.{atlas_in, change_of, outcome_in, seen_atlas, seen_other, accesses_of}
use Rattle.script_types.specs.model_kernel.Acts.{wanted}
use Rattle.script_types.specs.model_kernel.Births.{next_birth}
use Rattle.script_types.specs.model_kernel.LocalEvents.{touch_at}
use Rattle.script_types.specs.model_kernel.Parts.{is_event, after_entry}
use Rattle.script_types.specs.model_kernel.Histories.{Policy, Run, may, May, goes_on, went_on, event_of, IsLegalFrom, IsLegalRun, start_run, run_after, AllBelow64}
use Rattle.script_types.proofs.model_kernel_lemmas.Basics.{some_of_map}
use Rattle.script_types.proofs.model_kernel_lemmas.LegalRuns.{state_goes_on}
use Rattle.script_types.specs.Rules.{IsScript}
use Rattle.model_sound_steps.proofs.Cells.{locus_in}
use Rattle.model_run_laws.proofs.Writing.{IsStep, step_is}
use Rattle.model_sound_runs.proofs.Births.{NotLocus, Born, birth_leaves}
use Rattle.model_sound_runs.proofs.Ranges.{born_under, ordered_touches, step_under}
use Rattle.model_sound_runs.proofs.Runs.{Holds, other_entry, birth_entry}
use Rattle.model_sound_steps.proofs.Growth.{born_locus}

-- a sound state, and while births may be made names that fit
pub record IsStanding (script : Script) (r : Run) : Type 0 where
  pub sound : IsSound (λ x. (r.state x).cell)
  pub kinds : r.began ≡ true → All (NotLocus (atlas_in (r.state 0).cell)) script.containers

pub under_64 : (s : Supply) (me : ℕ) (w : KernelState) (e : Entry) → IsSound (λ x. (w x).cell) → IsStep s me w e → (x : ℕ) → 64 ≤ x → touch_at e.touched x ≡ None
unfolding change_of
under_64 s me w e sound k x h =
    let at = locus_in sound.0 (λ x. (w x).cell) me k.locus sound.1 k.there in
    let act = wanted me k.locus in
    ap (λ (e : Entry). touch_at e.touched x) k.entry
    ∙ ordered_touches w (accesses_of me act (outcome_in s k.locus act w)) x
    (step_under s me sound.0 (seen_atlas w act.atlas) k.locus (seen_other w act.other) sound.1.names at.1 (born_under sound.0 me sound.1.names (born_locus sound.0 me at.0))) h

-- a locus's number
pub actor_range : (s : Supply) (me : ℕ) (w : KernelState) (e : Entry) → IsSound (λ x. (w x).cell) → IsStep s me w e → (41 ≤ me) × (me < 64)
actor_range s me w e sound k =
    let at = locus_in sound.0 (λ x. (w x).cell) me k.locus sound.1 k.there in
    (above sound.0 at.0, born_under sound.0 me sound.1.names (born_locus sound.0 me at.0))
  where
    above : (a : AtlasState) → IsTrue (is_born_locus a me) → 41 ≤ me
    above a born = grind (arith, nat_tests)

none_in : (e : Entry) (x : ℕ) → e.touched ≡ [] → touch_at e.touched x ≡ None
none_in e x is = ap (λ ts. touch_at ts x) is

-- what is no birth
pub apart_step : Step ≡ Birth → ⊥
apart_step e = cc

pub apart_snap : SnapEvent ≡ Birth → ⊥
apart_snap e = cc

pub apart_stable : Stable ≡ Birth → ⊥
apart_stable e = cc

pub apart_tried : Tried ≡ Birth → ⊥
apart_tried e = cc

module _ (s : Supply) (policy : Policy) (script : Script) (rules : IsScript script) where
  pub made_birth : (r : Run) (e : Entry) → r.began ≡ true → option_map (λ (q : Entry × KernelState). q.0) (next_birth s script r.state) ≡ Some e → IsStanding script r
      → (q : Entry × KernelState) × (next_birth s script r.state ≡ Some q) × (q.0 ≡ e) × Born script r.state q
  made_birth r e began made k =
      let q = some_of_map (λ (q : Entry × KernelState). q.0) (next_birth s script r.state) e made in
      (q.0, q.1, q.2, birth_leaves s script r.state q.0 rules (k.kinds began) k.sound q.1)

  pub under_next : (r : Run) (e : Entry) → May s policy script r e → IsStanding script r → (x : ℕ) → 64 ≤ x → touch_at e.touched x ≡ None
  under_next r e m k x h =
      elim e.event as (λ ev. may s policy script r e ev → touch_at e.touched x ≡ None) [
        | Birth ↦ λ m. (let q = made_birth r e m.0 m.1 k in ap (λ (e : Entry). touch_at e.touched x) (sym q.2) ∙ q.3.under x h)
        | Step ↦ λ m. under_64 s e.actor r.state e k.sound (step_is s e.actor r.state e m.4) x h
        | SnapEvent ↦ λ m. none_in e x (ap (λ (e : Entry). e.touched) m.0)
        | Stable ↦ λ m. none_in e x (ap (λ (e : Entry). e.touched) m.2)
        | Tried ↦ λ m. none_in e x (ap (λ (e : Entry). e.touched) m.0)
      ] m.1

  same_state : (r : Run) (e : Entry) → is_event e.event ≡ false → after_entry (event_of s script) r.state e ≡ r.state
  same_state r e no_event = rw no_event refl

  pub standing_next : (r : Run) (e : Entry) → May s policy script r e → IsStanding script r → IsStanding script (goes_on s script r e)
  standing_next r e m k =
      let next = state_goes_on s policy script r e in
      let back : (P : KernelState → Type 0) → P (after_entry (event_of s script) r.state e) → P (goes_on s script r e).state = λ P h. subst P (sym next) h in
      let soundly : (e.event ≡ Birth → ⊥) → IsSound (λ x. ((goes_on s script r e).state x).cell) = λ other. back (λ w. IsSound (λ x. (w x).cell)) (other_entry s policy script r.state e other k.sound) in
      elim e.event as (λ ev. e.event ≡ ev → IsStanding script (goes_on s script r e)) [
        | Birth ↦ λ is. (
            let m' = subst (may s policy script r e) is m.1 in
            let h = back (Holds s policy script) (birth_entry s policy script r.state e is rules (k.sound, k.kinds m'.0)) in
            record { sound = h.0; kinds = λ _. h.1 })
        | Step ↦ λ is. record { sound = soundly (λ b. apart_step (sym is ∙ b)); kinds = λ began. absurd (false≢true (sym (ap (λ ev. (went_on s script r e ev).began) is) ∙ began)) }
        | SnapEvent ↦ λ is. record { sound = soundly (λ b. apart_snap (sym is ∙ b)); kinds = λ began. absurd (false≢true (sym (ap (λ ev. (went_on s script r e ev).began) is) ∙ began)) }
        | Stable ↦ λ is. record { sound = soundly (λ b. apart_stable (sym is ∙ b)); kinds = λ began. absurd (false≢true (sym (ap (λ ev. (went_on s script r e ev).began) is) ∙ began)) }
        | Tried ↦ λ is. record {
          sound = soundly (λ b. apart_tried (sym is ∙ b));
          kinds = λ began. back (λ w. All (NotLocus (atlas_in (w 0).cell)) script.containers)
              (subst (λ (w : KernelState). All (NotLocus (atlas_in (w 0).cell)) script.containers) (sym (same_state r e (ap is_event is))) (k.kinds (sym (ap (λ ev. (went_on s script r e ev).began) is) ∙ began)));
        }
      ] refl

  below_over : (es : List Entry) (r : Run) → IsLegalFrom s policy script r es → IsStanding script r → AllBelow64 es
  below_over [] r legal k = tt
  below_over (e ∷ es) r legal k = (under_next r e legal.0 k, below_over es (goes_on s script r e) legal.1 (standing_next r e legal.0 k))

  pub standing_over : (es : List Entry) (r : Run) → IsLegalFrom s policy script r es → IsStanding script r → IsStanding script (run_after s script r es)
  standing_over [] r legal k = k
  standing_over (e ∷ es) r legal k = standing_over es (goes_on s script r e) legal.1 (standing_next r e legal.0 k)

  pub legal_below : (w : KernelState) (es : List Entry) → All (NotLocus (atlas_in (w 0).cell)) script.containers → IsSound (λ x. (w x).cell) → IsLegalRun s policy w script es → AllBelow64 es
  legal_below w es kinds sound legal = below_over es (start_run w) legal (record { sound = sound; kinds = λ _. kinds })
