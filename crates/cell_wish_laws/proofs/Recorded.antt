-- Wishes after records and births.
use Rattle.std.proofs.Common.{◌≡◌, ℕ, ◌+◌, ◌<◌, Bool, true, false, not, ◌&&◌, ◌||◌, ◌==◌, if◌then◌else◌, List, refl, sym, ap, ◌∙◌, subst, arith, eqb-true, eq-eqb}
use Rattle.cell_states.specs.base_types.declared.histories.Entry.{Entry}
use Rattle.cell_states.specs.base_types.declared.histories.Event.{Event}
use Rattle.cell_states.specs.base_types.declared.histories.Event.TheVariants.{Birth, Step, Snap as SnapEvent, Stable, Tried}
use Rattle.model_run_laws.specs.model_kernel.State.{Supply}
use Rattle.model_run_laws.specs.model_kernel.Scripts.{Script}
use Rattle.model_run_laws.specs.model_kernel.Histories.{Run, goes_on, version_of, went_on, writes}
use Rattle.cell_states.specs.cell_clocks.declared.Clock.{Clock}
use Rattle.cell_states.specs.declared.cells.Cell.{Cell}
use Rattle.cell_states.specs.declared.cells.Wish.{Wish}
use Rattle.cell_states.specs.Cells.{HasCell}
use Rattle.cell_states.specs.Wishes.{HasWish}
use Rattle.cell_wish_laws.specs.Founded.{IsFoundedCell, IsRecordMark, IsRecordedNow, TakesBirth}

pub state_stays : (s : Supply) (script : Script) (r : Run) (e : Entry) → IsRecordMark e.event → (goes_on s script r e).state ≡ r.state
state_stays s script r e = by e.event
  where
    by : (ev : Event) → IsRecordMark ev → (went_on s script r e ev).state ≡ r.state
    by Birth is = elim is [ ]
    by Step is = elim is [ ]
    by SnapEvent is = refl
    by Stable is = refl
    by Tried is = elim is [ ]

if_same : {A : Type 0} (x y : ℕ) (a b : A) → x ≡ y → (if x == y then a else b) ≡ a
if_same x y a b same = (λ i. if eq-eqb x y same i then a else b)

if_other : {A : Type 0} (x y : ℕ) (a b : A) → (x ≡ y → ⊥) → (if x == y then a else b) ≡ b
if_other x y a b apart = elim (x == y) as (λ t. (x == y) ≡ t → (if t then a else b) ≡ b) [ true ↦ λ is. absurd (apart (eqb-true x y is)) | false ↦ λ _. refl ] refl

module _ (s : Supply) (script : Script) (r : Run) (e : Entry) where
  pub snap_wish : (words : ℕ → List ℕ) (steps : ℕ) (c d : Cell) → e.event ≡ SnapEvent → e.actor ≡ c.clock.entity → HasCell s words r.state c → HasWish steps r c → IsRecordedNow c d → HasWish steps (goes_on s script r e) d
  snap_wish words steps c d event actor cell has now =
      let at : d.clock.entity ≡ e.actor = ap (λ (k : Clock). k.entity) now.same_clock ∙ sym actor in
      subst (λ ev. HasWish steps (went_on s script r e ev) d) (sym event) (record {
        newest = if_same _ _ (version_of r e.actor) (r.newest d.clock.entity) at ∙ ap (version_of r) actor ∙ cell.clock.version ∙ sym (ap (λ (w : Wish). w.newest) now.wish);
        by_step = if_same _ _ false (r.by_step d.clock.entity) at ∙ sym (ap (λ (w : Wish). w.by_step) now.wish);
        asked = if_same _ _ false (r.asked d.clock.entity) at ∙ sym (ap (λ (w : Wish). w.asked) now.wish);
        left = (λ i. r.steps (now.same_clock i).entity + now.same_left i) ∙ has.left;
      })

  pub other_wish : (steps : ℕ) (c : Cell) → e.event ≡ SnapEvent → (c.clock.entity ≡ e.actor → ⊥) → HasWish steps r c → HasWish steps (goes_on s script r e) c
  other_wish steps c event apart has = subst (λ ev. HasWish steps (went_on s script r e ev) c) (sym event) (record {
    newest = if_other _ _ (version_of r e.actor) (r.newest c.clock.entity) apart ∙ has.newest;
    by_step = if_other _ _ false (r.by_step c.clock.entity) apart ∙ has.by_step;
    asked = if_other _ _ false (r.asked c.clock.entity) apart ∙ has.asked;
    left = has.left;
  })

  pub stable_wish : (words : ℕ → List ℕ) (steps : ℕ) (c d : Cell) → e.event ≡ Stable → HasCell s words r.state c → HasWish steps r c → IsRecordedNow c d → HasWish steps (goes_on s script r e) d
  stable_wish words steps c d event cell has now = subst (λ ev. HasWish steps (went_on s script r e ev) d) (sym event) (record {
    newest = ap (λ (k : Clock). version_of r k.entity) now.same_clock ∙ cell.clock.version ∙ sym (ap (λ (w : Wish). w.newest) now.wish);
    by_step = sym (ap (λ (w : Wish). w.by_step) now.wish);
    asked = sym (ap (λ (w : Wish). w.asked) now.wish);
    left = (λ i. r.steps (now.same_clock i).entity + now.same_left i) ∙ has.left;
  })

  -- a cell that hasn't changed was neither written by a step nor named since its newest record
  calm : (n v : ℕ) (a b : Bool) → v ≡ n → ((a || b) ≡ true → n < v) → (a ≡ false) × (b ≡ false)
  calm n v false false same changed = (refl, refl)
  calm n v true b same changed = absurd (let less = changed refl in omega arith)
  calm n v false true same changed = absurd (let less = changed refl in omega arith)

  pub settled_wish : (words : ℕ → List ℕ) (steps : ℕ) (c : Cell) → e.event ≡ Stable → HasCell s words r.state c → HasWish steps r c → IsFoundedCell c → c.clock.version ≡ c.wish.newest → HasWish steps (goes_on s script r e) c
  settled_wish words steps c event cell has f same =
      let still = calm c.wish.newest c.clock.version c.wish.by_step c.wish.asked same f.changed in
      subst (λ ev. HasWish steps (went_on s script r e ev) c) (sym event) (record {
        newest = cell.clock.version ∙ same;
        by_step = sym still.0;
        asked = sym still.1;
        left = has.left;
      })

  pub birth_wish : (steps : ℕ) (c d : Cell) → e.event ≡ Birth → HasWish steps r c → TakesBirth (writes e c.clock.entity) c d → HasWish steps (goes_on s script r e) d
  birth_wish steps c d event has takes = subst (λ ev. HasWish steps (went_on s script r e ev) d) (sym event) (record {
    newest = ap r.newest takes.same_entity ∙ has.newest ∙ sym (ap (λ (w : Wish). w.newest) takes.wish);
    by_step = ap (λ x. not (writes e x) && r.by_step x) takes.same_entity ∙ ap (λ b. not (writes e c.clock.entity) && b) has.by_step ∙ sym (ap (λ (w : Wish). w.by_step) takes.wish);
    asked = ap r.asked takes.same_entity ∙ has.asked ∙ sym (ap (λ (w : Wish). w.asked) takes.wish);
    left = (λ i. r.steps (takes.same_entity i) + takes.same_left i) ∙ has.left;
  })
