-- What a step leaves of entities and of wishes.
use Rattle.std.proofs.Common.{◌≡◌, ℕ, ◌+◌, ◌≤◌, Bool, true, false, ◌&&◌, ◌||◌, ◌==◌, if◌then◌else◌, Some, None, Option, option_map, refl, sym, ap, subst, ◌∙◌, arith, eqb-true, eq-eqb, ne_eqb}
use Rattle.std.proofs.lemmas.Bool.{false≢true}
use Rattle.plain_states.specs.base_types.declared.histories.Entry.{Entry}
use Rattle.plain_states.specs.base_types.declared.histories.Event.TheVariants.{Step}
use Rattle.plain_states.specs.base_types.declared.histories.Touch.{Touch}
use Rattle.plain_states.specs.model_kernel.Histories.{Run, after_step, asked_by, locus_in, with_asked, writes}
use Rattle.plain_states.specs.model_kernel.Soundness.{IsSound}
use Rattle.plain_states.specs.model_kernel.State.{EntityState, KernelState, LocusState, Supply}
use Rattle.plain_states.specs.model_kernel.Steps.{step, step_change}
use Rattle.plain_states.specs.model_kernel.LocalEvents.{touch_at}
use Rattle.plain_states.proofs.model_kernel_lemmas.Basics.{and_left, and_right, both}
use Rattle.plain_states.proofs.model_kernel_lemmas.Carried.{acts_stamped}
use Rattle.plain_states.proofs.model_kernel_lemmas.Covering.{found}
use Rattle.plain_states.proofs.model_kernel_lemmas.Locality.{step_local}
use Rattle.plain_states.proofs.model_kernel_lemmas.Replay.{any_at, at_entity}
use Rattle.cell_wish_laws.proofs.model_run_laws_lemmas.Wishes.{with_asked_at}
use Rattle.cell_wish_laws.proofs.model_run_laws_lemmas.Writing.{IsStep, step_is, step_writes_asked, step_writes_own}
use Rattle.plain_states.proofs.model_sound_runs_lemmas.Standing.{under_64}
use Rattle.cell_newborns.specs.cell_clocks.Clocks.{HasClock}
use Rattle.cell_newborns.specs.cell_states.declared.cells.Cell.{Cell}
use Rattle.cell_newborns.specs.cell_states.Wishes.{HasWish}
use Rattle.cell_wish_laws.specs.Founded.{IsFounded, IsFoundedCell, IsFoundedIn}
use Rattle.cell_wish_laws.proofs.Founding.{same_founded, written_founded}
use Rattle.cell_step_laws.specs.Touching.{IsNoted, run_with}

module _ (s : Supply) (me : ℕ) (w v : KernelState) (e : Entry) (is : step s me w ≡ Some (e, v)) where
  pub made : IsStep s me w e
  made = step_is s me w e (ap (option_map (λ (r : Entry × KernelState). r.0)) is)

  pub names : (e.actor ≡ me) × (e.event ≡ Step) × (writes e me ≡ true)
  names = (ap (λ (e : Entry). e.actor) made.entry, ap (λ (e : Entry). e.event) made.entry, step_writes_own s me w e made)

  -- what it doesn't write stays
  pub stays : (x : ℕ) → writes e x ≡ false → v x ≡ w x
  stays x none =
      elim (touch_at e.touched x) as (λ o. touch_at e.touched x ≡ o → v x ≡ w x) [
        | None ↦ λ f. (step_local s me).stays w (e, v) is x f
        | Some t ↦ λ f. elim t.wrote as (λ b. t.wrote ≡ b → v x ≡ w x) [
          | true ↦ λ wrote. absurd (false≢true (sym none ∙ any_at (λ t. t.entity == x && t.wrote) e.touched x t f (both _ _ (eq-eqb _ _ (at_entity e.touched x t f)) wrote)))
          | false ↦ λ read. ((step_local s me).reads w (e, v) is x t f read).0
        ] refl
      ] refl

  pub stays_past : IsSound (λ x. (w x).cell) → (x : ℕ) → 64 ≤ x → v x ≡ w x
  stays_past sound x high = (step_local s me).stays w (e, v) is x (under_64 s me w e sound made x high)

  -- what it writes has the next version
  rises : (x : ℕ) → writes e x ≡ true → (v x).version ≡ (w x).version + 1
  rises x wrote =
      let f = found (λ (t : Touch). t.entity == x && t.wrote) e.touched ((acts_stamped Step (step_change s me)).rising w (e, v) is) wrote in
      let same : f.0 ≡ x = sym (at_entity e.touched f.0 f.1 f.2) ∙ eqb-true _ _ (and_left _ _ f.3) in
      let q = (step_local s me).writes w (e, v) is f.0 f.1 f.2 (and_right _ _ f.3) in
      subst (λ z. (v z).version ≡ (w z).version + 1) same (q.0 ∙ sym q.1)

pub founded_after : (s : Supply) (r : Run) (me : ℕ) (v : KernelState) (e : Entry) (x : ℕ) → step s me r.state ≡ Some (e, v) → IsFoundedIn r x → IsFoundedIn (after_step r e (locus_in (r.state me).cell) v) x
founded_after s r me v e x is f =
    elim (writes e x) as (λ b. writes e x ≡ b → IsFounded (r.newest x) (v x).version ((b || r.by_step x) || with_asked (asked_by e.answer (locus_in (r.state me).cell)) r.asked x)) [
      | true ↦ λ wrote. written_founded _ _ _ _ _ (rises s me r.state v e is x wrote) f
      | false ↦ λ none. (
          let asked = with_asked_at (asked_by e.answer (locus_in (r.state me).cell)) r.asked x (λ h. false≢true (sym none ∙ step_writes_asked s me r.state e x (made s me r.state v e is) h)) in
          same_founded _ _ _ _ _ _ refl (ap (λ (k : EntityState). k.version) (sym (stays s me r.state v e is x none))) (λ i. r.by_step x || sym asked i) f)
    ] refl

-- along the clock and the wish of a cell
founded_in : (steps : ℕ) (r : Run) (c : Cell) → HasClock r.state c.clock → HasWish steps r c → IsFoundedCell c → IsFoundedIn r c.clock.entity
founded_in steps r c clock wish = same_founded _ _ _ _ _ _ (sym wish.newest) (sym clock.version) (λ i. sym wish.by_step i || sym wish.asked i)

founded_cell : (steps : ℕ) (r : Run) (c : Cell) → HasClock r.state c.clock → HasWish steps r c → IsFoundedIn r c.clock.entity → IsFoundedCell c
founded_cell steps r c clock wish = same_founded _ _ _ _ _ _ wish.newest clock.version (λ i. wish.by_step i || wish.asked i)

pub founded_left : (s : Supply) (steps : ℕ) (r : Run) (me : ℕ) (v : KernelState) (e : Entry) (c d : Cell) → step s me r.state ≡ Some (e, v) → d.clock.entity ≡ c.clock.entity → HasClock r.state c.clock → HasWish steps r c
    → HasClock v d.clock → HasWish steps (after_step r e (locus_in (r.state me).cell) v) d → IsFoundedCell c → IsFoundedCell d
founded_left s steps r me v e c d is same clock wish clock' wish' f =
    let next = after_step r e (locus_in (r.state me).cell) v in
    founded_cell steps next d clock' wish' (subst (IsFoundedIn next) (sym same) (founded_after s r me v e c.clock.entity is (founded_in steps r c clock wish f)))

-- WISHES

-- with the mark of this entity alone
asked_same : (o : Option ℕ) (f : ℕ → Bool) (b : Bool) (x : ℕ) → f x ≡ b → with_asked o f x ≡ with_asked o (λ _. b) x
asked_same None f b x is = is
asked_same (Some y) f b x is = ap (λ t. if x == y then true else t) is

pub noted : (steps : ℕ) (r : Run) (e : Entry) (l : Option LocusState) (v : KernelState) (c d : Cell) → d.clock.entity ≡ c.clock.entity → HasWish steps r c → HasWish steps (after_step r e l v) d → IsNoted e l c d
noted steps r e l v c d same had has = record {
  newest = sym has.newest ∙ ap r.newest same ∙ had.newest;
  by_step = sym has.by_step ∙ (λ i. writes e (same i) || r.by_step (same i)) ∙ ap (λ b. writes e c.clock.entity || b) had.by_step;
  asked = sym has.asked ∙ ap (with_asked (asked_by e.answer l) r.asked) same ∙ asked_same (asked_by e.answer l) r.asked c.wish.asked c.clock.entity had.asked;
  stays = λ apart.
      let other : (after_step r e l v).steps d.clock.entity ≡ r.steps c.clock.entity = ap (after_step r e l v).steps same ∙ ap (λ b. if b then r.steps e.actor + 1 else r.steps c.clock.entity) (ne_eqb c.clock.entity e.actor apart) in
      omega (arith, other, has.left, had.left);
  spends = λ own.
      let one : (after_step r e l v).steps d.clock.entity ≡ r.steps e.actor + 1 = ap (after_step r e l v).steps same ∙ ap (λ b. if b then r.steps e.actor + 1 else r.steps c.clock.entity) (eq-eqb c.clock.entity e.actor own) in
      let here : r.steps c.clock.entity ≡ r.steps e.actor = ap r.steps own in
      omega (arith, one, here, has.left, had.left);
}

pub wished : (count : ℕ) (w : KernelState) (cells : ℕ → Cell) (c : Cell) → cells c.clock.entity ≡ c → c.left ≤ count → HasWish count (run_with count w cells) c
wished count w cells c is few = record {
  newest = ap (λ (k : Cell). k.wish.newest) is;
  by_step = ap (λ (k : Cell). k.wish.by_step) is;
  asked = ap (λ (k : Cell). k.wish.asked) is;
  left = (let left : (cells c.clock.entity).left ≡ c.left = ap (λ (k : Cell). k.left) is in omega (arith, left, few));
}
