-- A run goes on after a step of a locus.
use Rattle.std.proofs.Common.{◌≡◌, ℕ, ◌+◌, true, false, ◌||◌, ◌==◌, if◌then◌else◌, List, [], Option, Some, option_map, MatchBool, refl, sym, ap, ◌∙◌, subst, eqb-true}
use Rattle.std.proofs.lemmas.Bool.{false≢true}
use Rattle.cell_states.specs.base_types.declared.histories.Entry.{Entry}
use Rattle.cell_states.specs.base_types.declared.histories.Event.TheVariants.{Step}
use Rattle.model_run_laws.specs.model_kernel.State.{EntityState, KernelState, Supply}
use Rattle.model_run_laws.specs.model_kernel.Scripts.{Script}
use Rattle.model_run_laws.specs.model_kernel.Steps.{step}
use Rattle.model_run_laws.specs.model_kernel.Words.{put}
use Rattle.model_run_laws.specs.model_kernel.Parts.{IsNext, is_event, next_of}
use Rattle.model_run_laws.specs.model_kernel.Histories.{Run, after_step, asked_by, by_event, event_of, goes_on, locus_in, never, went_on, with_asked, writes}
use Rattle.model_run_laws.proofs.model_kernel_lemmas.LegalRuns.{state_goes_on}
use Rattle.model_run_laws.proofs.Wishes.{with_asked_at}
use Rattle.model_run_laws.proofs.Writing.{IsStep, step_is, step_writes_asked, step_writes_own, entry_stays}
use Rattle.cell_states.specs.declared.cells.Cell.{Cell}
use Rattle.cell_states.specs.Cells.{HasCell}
use Rattle.cell_states.specs.Wishes.{HasWish}

module _ (s : Supply) (script : Script) (r : Run) (me : ℕ) (e : Entry) (v : KernelState) (made : step s me r.state ≡ Some (e, v)) where
  entry_is : IsStep s me r.state e
  entry_is = step_is s me r.state e (ap (λ (o : Option (Entry × KernelState)). option_map (λ (p : Entry × KernelState). p.0) o) made)

  event_is : e.event ≡ Step
  event_is = ap (λ (k : Entry). k.event) entry_is.entry

  actor_is : e.actor ≡ me
  actor_is = ap (λ (k : Entry). k.actor) entry_is.entry

  event_made : event_of s script e r.state ≡ Some (e, v)
  event_made = (λ i. by_event s script (event_is i) (actor_is i) r.state) ∙ made

  next : IsNext (event_of s script) r.state e
  next = subst (λ ev. MatchBool (is_event ev) (option_map (λ (p : Entry × KernelState). p.0) (event_of s script e r.state) ≡ Some e) (e.touched ≡ [])) (sym event_is)
      (ap (λ (o : Option (Entry × KernelState)). option_map (λ (p : Entry × KernelState). p.0) o) event_made)

  -- its state is the one that the step leaves
  pub state_left : (goes_on s script r e).state ≡ v
  state_left = state_goes_on s never script r e ∙ (λ i. if is_event (event_is i) then next_of (event_of s script) r.state (event_made i) else r.state)

  -- and wishes are those right after the step
  pub wish_left : (steps : ℕ) (c : Cell) → HasWish steps (after_step r e (locus_in (r.state me).cell) v) c → HasWish steps (goes_on s script r e) c
  wish_left steps c has =
      subst (λ ev. HasWish steps (went_on s script r e ev) c) (sym event_is) (record {
        newest = has.newest;
        by_step = has.by_step;
        asked = (λ i. with_asked (asked_by e.answer (locus_in (r.state (actor_is i)).cell)) r.asked c.clock.entity) ∙ has.asked;
        left = has.left;
      })

  -- A CELL THAT ISN'T WRITTEN
  module _ (c : Cell) (none : writes e c.clock.entity ≡ false) where
    cell_stays : (goes_on s script r e).state c.clock.entity ≡ r.state c.clock.entity
    cell_stays = ap (λ (w : KernelState). w c.clock.entity) (state_goes_on s never script r e) ∙ entry_stays s never script r.state e next c.clock.entity none

    pub unwritten_cell : (words : ℕ → List ℕ) → HasCell s words r.state c → HasCell s words (goes_on s script r e).state c
    unwritten_cell words has = record {
      part = ap (λ (b : EntityState). b.cell) cell_stays ∙ has.part;
      clock = record {
        version = ap (λ (b : EntityState). b.version) cell_stays ∙ has.clock.version;
        stamp = λ y. ap (λ (b : EntityState). b.stamp y) cell_stays ∙ has.clock.stamp y;
      };
    }

    same_steps : (n : ℕ) → put r.steps e.actor n c.clock.entity ≡ r.steps c.clock.entity
    same_steps n = elim (c.clock.entity == e.actor) as (λ b. (c.clock.entity == e.actor) ≡ b → (if b then n else r.steps c.clock.entity) ≡ r.steps c.clock.entity) [
      | true ↦ λ at. absurd (false≢true (sym none ∙ ap (writes e) (eqb-true _ _ at ∙ actor_is) ∙ step_writes_own s me r.state e entry_is))
      | false ↦ λ _. refl
    ] refl

    pub unwritten_wish : (steps : ℕ) → HasWish steps r c → HasWish steps (goes_on s script r e) c
    unwritten_wish steps has =
        let other = λ (h : asked_by e.answer (locus_in (r.state me).cell) ≡ Some c.clock.entity). false≢true (sym none ∙ step_writes_asked s me r.state e c.clock.entity entry_is h) in
        wish_left steps c (record {
          newest = has.newest;
          by_step = (λ i. none i || r.by_step c.clock.entity) ∙ has.by_step;
          asked = with_asked_at (asked_by e.answer (locus_in (r.state me).cell)) r.asked c.clock.entity other ∙ has.asked;
          left = ap (λ k. k + c.left) (same_steps (r.steps e.actor + 1)) ∙ has.left;
        })
