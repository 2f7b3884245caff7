-- Sound states stay so through steps, births, runs and parts.
use Rattle.std.proofs.Common.{◌≡◌, ℕ, ◌+◌, ◌<◌, if◌then◌else◌, IsTrue, ◌↔◌, ◌⊎◌, inl, inr, List, [], ◌∷◌, Option, Some, None, refl, sym, ap, subst, ◌∙◌, arith}
use Rattle.std.specs.List.{All}
use Rattle.std.proofs.lemmas.Bool.{false≢true}
use Rattle.model_sound_runs.specs.base_types.declared.histories.Entry.{Entry}
use Rattle.model_sound_runs.specs.base_types.declared.histories.Event.TheVariants.{Birth, Step, Snap as SnapEvent, Stable, Tried}
use Rattle.model_sound_runs.specs.model_kernel.Acts.{wanted}
use Rattle.model_sound_runs.specs.model_kernel.Births.{next_birth, next_birth_change}
use Rattle.model_sound_runs.specs.model_kernel.Changes.{Access, Change, carried, changed, ordered}
use Rattle.model_sound_runs.specs.model_kernel.Histories.{Policy, IsLegalRun, by_event, event_of, start_run}
use Rattle.model_sound_runs.specs.model_kernel.Parts.{after, after_entry, is_event, next_of, part_of, within}
use Rattle.model_sound_runs.specs.model_kernel.Scripts.{Script}
use Rattle.model_sound_runs.specs.model_kernel.Soundness.{is_born}
use Rattle.model_sound_runs.specs.model_kernel.State.{Cell, ContainerState, ContainerCell, EntityState, KernelState, NotBorn, AtlasCell, LocusCell, Supply}
use Rattle.model_sound_runs.specs.model_kernel.Steps.{accesses_of, atlas_in, change_of, numbered_change, outcome_in, running, step, step_change}
use Rattle.model_sound_runs.proofs.model_kernel_lemmas.Basics.{some_of_map}
use Rattle.model_sound_runs.proofs.model_kernel_lemmas.Carried.{acts_stamped}
use Rattle.model_sound_runs.proofs.model_kernel_lemmas.Locality.{next_birth_local, step_local}
use Rattle.model_sound_runs.specs.script_types.Rules.{IsScript}
use Rattle.model_sound_runs.proofs.model_sound_steps_lemmas.Cells.{fits_in, locus_in}
use Rattle.model_sound_runs.proofs.model_sound_steps_lemmas.Growth.{born_container}
use Rattle.model_sound_runs.proofs.model_sound_steps_lemmas.Steps.{step_sound}
use Rattle.model_sound_runs.proofs.Births.{NotLocus, birth_leaves}
use Rattle.model_sound_runs.proofs.Ranges.{NamesBorn, wanted_born}
use Rattle.model_sound_runs.proofs.Runs.{BirthsFirst, NoBirths, first_kept, legal_first}
use Rattle.model_sound_states.specs.States.{IsSoundState, IsSupplied}
use Rattle.model_sound_states.proofs.Births.{birth_good}
use Rattle.model_sound_states.proofs.Cells.{AreGood, IsGoodCell, changed_good}
use Rattle.model_sound_states.proofs.Stamps.{event_below, event_own}
use Rattle.model_sound_states.proofs.Steps.{step_good}
use Rattle.model_sound_runs.proofs.model_kernel_lemmas.StepTallies.{running_is}

-- A BORN ENTITY'S CELL

good_cell : (s : Supply) (cell : Cell) → (cell ≡ NotBorn → ⊥) → ((c : ContainerState) → cell ≡ ContainerCell c → IsSupplied s c) → IsGoodCell s cell
good_cell s NotBorn born words = absurd (born refl)
good_cell s (AtlasCell a) born words = tt
good_cell s (ContainerCell c) born words = words c refl
good_cell s (LocusCell l) born words = tt

pub not_unborn : (s : Supply) (cell : Cell) → IsGoodCell s cell → cell ≡ NotBorn → ⊥
not_unborn s NotBorn good e = good
not_unborn s (AtlasCell a) good e = cc
not_unborn s (ContainerCell c) good e = cc
not_unborn s (LocusCell l) good e = cc

words_of : (s : Supply) (cell : Cell) (c : ContainerState) → IsGoodCell s cell → cell ≡ ContainerCell c → IsSupplied s c
words_of s cell c good e = subst (IsGoodCell s) e good

born_good : (s : Supply) (w : KernelState) (k : IsSoundState s w) (x : ℕ) → IsTrue (is_born k.sound.0 x) → IsGoodCell s (w x).cell
born_good s w k x born = good_cell s (w x).cell (λ none. false≢true (sym (subst (Rattle.model_sound_runs.proofs.model_sound_steps_lemmas.Cells.Fits k.sound.0 x) none (fits_in k.sound.0 (λ x. (w x).cell) k.sound.1 x)) ∙ born)) (k.words x)

-- ONE EVENT

-- where all new cells are good
module _ (s : Supply) (w : KernelState) (k : IsSoundState s w) (ms : List Access) (good : AreGood s ms) (v : KernelState) (is : changed w (ordered ms) ≡ v) where
  case_at : (x : ℕ) → (v x ≡ w x) ⊎ (IsGoodCell s (v x).cell × ((v x).version ≡ (w x).version + 1))
  case_at x = subst (λ (v : KernelState). (v x ≡ w x) ⊎ (IsGoodCell s (v x).cell × ((v x).version ≡ (w x).version + 1))) is (changed_good s w ms x good)

  no_zero : (n : ℕ) → n ≡ 0 → (m : ℕ) → n ≡ m + 1 → ⊥
  no_zero n z m e = omega (arith, z, e)

  pub event_born : (x : ℕ) → 0 < x → ((v x).cell ≡ NotBorn) ↔ ((v x).version ≡ 0)
  event_born x high = elim (case_at x) as (λ _. ((v x).cell ≡ NotBorn) ↔ ((v x).version ≡ 0)) [
    | inl same ↦ subst (λ (e : EntityState). (e.cell ≡ NotBorn) ↔ (e.version ≡ 0)) (sym same) (k.born x high)
    | inr new ↦ (λ none. absurd (not_unborn s (v x).cell new.0 none), λ zero. absurd (no_zero (v x).version zero (w x).version new.1))
  ]

  pub event_words : (x : ℕ) (c : ContainerState) → (v x).cell ≡ ContainerCell c → IsSupplied s c
  event_words x c at = elim (case_at x) as (λ _. IsSupplied s c) [
    | inl same ↦ k.words x c (ap (λ (e : EntityState). e.cell) (sym same) ∙ at)
    | inr new ↦ words_of s (v x).cell c new.0 at
  ]

module _ (s : Supply) where
  pub step_state : (me : ℕ) (w : KernelState) (r : Entry × KernelState) → IsSoundState s w → step s me w ≡ Some r → IsSoundState s r.1
  unfolding step_change change_of
  step_state me w r k is =
      let change = some_of_map (λ (c : ℕ × Change). carried w Step c.0 c.1) (step_change s me w) r is in
      let locus = some_of_map (numbered_change s me w) (running (w me).cell) change.0 change.1 in
      let l = locus.0 in
      let at = locus_in k.sound.0 (λ x. (w x).cell) me l k.sound.1 (running_is (w me).cell l locus.1) in
      let ms = accesses_of me (wanted me l) (outcome_in s l (wanted me l) w) in
      let whole : carried w Step me (change_of s w me l) ≡ r = ap (λ (c : ℕ × Change). carried w Step c.0 c.1) locus.2 ∙ change.2 in
      let state : changed w (ordered ms) ≡ r.1 = ap (λ (q : Entry × KernelState). q.1) whole in
      let good = step_good s me l w (λ x other. born_good s w k x (subst (NamesBorn k.sound.0) other (wanted_born k.sound.0 l at.1 me))) in
      record {
        sound = step_sound s me w r k.sound is;
        born = event_born s w k ms good r.1 state;
        own = event_own (step s me) (step_local s me) (acts_stamped Step (step_change s me)) w r is k.below k.own;
        below = event_below (step s me) (step_local s me) (acts_stamped Step (step_change s me)) w r is k.below;
        words = event_words s w k ms good r.1 state;
      }

  module _ (script : Script) (rules : IsScript script) where
    abbrev pub HasNames : KernelState → Type 0
    HasNames w = All (NotLocus (atlas_in (w 0).cell)) script.containers

    pub birth_state : (w : KernelState) (r : Entry × KernelState) → HasNames w → IsSoundState s w → next_birth s script w ≡ Some r → IsSoundState s r.1
    birth_state w r names k is =
        let change = some_of_map (λ (c : ℕ × Change). carried w Birth c.0 c.1) (next_birth_change s script w) r is in
        let ms = change.0.1.accesses in
        let state : changed w (ordered ms) ≡ r.1 = ap (λ (q : Entry × KernelState). q.1) change.2 in
        let good = birth_good s script w k.sound.0 (λ x born. born_good s w k x (born_container k.sound.0 x born)) k.sound.1.atlas change.0 change.1 in
        record {
          sound = (birth_leaves s script w r rules names k.sound is).sound;
          born = event_born s w k ms good r.1 state;
          own = event_own (next_birth s script) (next_birth_local s script) (acts_stamped Birth (next_birth_change s script)) w r is k.below k.own;
          below = event_below (next_birth s script) (next_birth_local s script) (acts_stamped Birth (next_birth_change s script)) w r is k.below;
          words = event_words s w k ms good r.1 state;
        }

    -- HISTORIES WHOSE BIRTHS STAND FIRST

    abbrev pub Holds : KernelState → Type 0
    Holds w = IsSoundState s w × HasNames w

    after_step : (w : KernelState) (actor : ℕ) → IsSoundState s w → (o : Option (Entry × KernelState)) → step s actor w ≡ o → IsSoundState s (next_of (event_of s script) w o)
    after_step w actor k None is = k
    after_step w actor k (Some r) is = step_state actor w r k is

    after_birth : (w : KernelState) → Holds w → (o : Option (Entry × KernelState)) → next_birth s script w ≡ o → Holds (next_of (event_of s script) w o)
    after_birth w h None is = h
    after_birth w h (Some r) is = (birth_state w r h.1 h.0 is, (birth_leaves s script w r rules h.1 h.0.sound is).kinds)

    other_entry : (w : KernelState) (e : Entry) → (e.event ≡ Birth → ⊥) → IsSoundState s w → IsSoundState s (after_entry (event_of s script) w e)
    other_entry w e other k =
        elim e.event as (λ ev. e.event ≡ ev → IsSoundState s (if is_event ev then next_of (event_of s script) w (by_event s script ev e.actor w) else w)) [
          | Birth ↦ λ is. absurd (other is)
          | Step ↦ λ is. after_step w e.actor k (step s e.actor w) refl
          | SnapEvent ↦ λ is. k
          | Stable ↦ λ is. k
          | Tried ↦ λ is. k
        ] refl

    birth_entry : (w : KernelState) (e : Entry) → e.event ≡ Birth → Holds w → Holds (after_entry (event_of s script) w e)
    birth_entry w e is h =
        subst (λ ev. Holds (if is_event ev then next_of (event_of s script) w (by_event s script ev e.actor w) else w)) (sym is) (after_birth w h (next_birth s script w) refl)

    over_steps : (es : List Entry) (w : KernelState) → NoBirths es → IsSoundState s w → IsSoundState s (after (event_of s script) w es)
    over_steps [] w none k = k
    over_steps (e ∷ es) w none k = over_steps es (after_entry (event_of s script) w e) none.1 (other_entry w e none.0 k)

    over : (es : List Entry) (w : KernelState) → BirthsFirst es → Holds w → IsSoundState s (after (event_of s script) w es)
    over [] w births h = h.0
    over (e ∷ es) w births h = elim births as (λ _. IsSoundState s (after (event_of s script) (after_entry (event_of s script) w e) es)) [
      | inl k ↦ over es (after_entry (event_of s script) w e) k.1 (birth_entry w e k.0 h)
      | inr k ↦ over_steps (e ∷ es) w k h.0
    ]

    pub run_state : (policy : Policy) (w : KernelState) (es : List Entry) → Holds w → IsLegalRun s policy w script es → IsSoundState s (after (event_of s script) w es)
    run_state policy w es h legal = over es w (legal_first s policy script (start_run w) es legal) h

    pub part_state : (policy : Policy) (w : KernelState) (es : List Entry) (p : ℕ → ℕ) → Holds w → IsLegalRun s policy w script es → IsSoundState s (after (event_of s script) w (part_of p es))
    part_state policy w es p h legal = over (part_of p es) w (first_kept (within p) es (legal_first s policy script (start_run w) es legal)) h
