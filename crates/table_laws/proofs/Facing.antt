-- What a table in order says of the cells that a step touches.
use Rattle.std.proofs.Common.{◌≡◌, ◌≢◌, ℕ, ◌<◌, ◌^◌, Bool, List, slice_get, IsSome, Option, Some, None, sym, ap, ◌∙◌, subst}
use Rattle.cell_steps.specs.base_types.declared.instructions.Instr.{Instr}
use Rattle.cell_steps.specs.model_kernel.Soundness.{AreSound}
use Rattle.cell_steps.specs.model_kernel.State.{AtlasState, Cell as ModelCell, NotBorn, LocusCell}
use Rattle.cell_steps.specs.model_acts.Views.{IsReadyLocus}
use Rattle.cell_steps.proofs.model_acts_lemmas.Ready.{ready}
use Rattle.cell_steps.specs.act_alone.Loci.{locus_of}
use Rattle.cell_steps.specs.act_alone.declared.loci.Head.{Head}
use Rattle.cell_steps.specs.act_alone.declared.loci.Locus.{Locus}
use Rattle.cell_steps.specs.cell_states.declared.cells.Cell.{Cell}
use Rattle.cell_steps.specs.cell_states.declared.cells.Part.{Part}
use Rattle.cell_steps.specs.cell_states.declared.cells.Part.TheVariants as part
use Rattle.cell_steps.specs.cell_states.Cells.{container_cell, part_of}
use Rattle.cell_steps.specs.cell_calls.Besides.{FitsBeside}
use Rattle.cell_step_laws.proofs.SoundPlans.{fits_here, locus_here}
use Rattle.cell_steps.specs.cell_plans.Plans.{IsPlanned}
use Rattle.cell_steps.specs.cell_plans.declared.plans.Reach.{Reach}
use Rattle.cell_steps.specs.cell_plans.declared.plans.Reach.TheVariants as reach
use Rattle.table_laws.specs.Steps.{IsPlannedAt}
use Rattle.table_laws.specs.Tables.{AreFewWrites, HasKind, IsOrderly, entity_in, state_in}
pub use Rattle.table_laws.proofs.Having.{no_supply, no_words}
use Rattle.std.proofs.lemmas.Option.{same_Some}

module _ (held : ℕ → Bool) (cs : List Cell) (orderly : IsOrderly held cs) where
  unfoldable pub cells : ℕ → ModelCell
  cells x = (state_in no_supply no_words cs x).cell

  pub atlas : AtlasState
  atlas = (orderly.sound no_supply no_words).sound.0

  pub are_sound : AreSound atlas cells
  unfolding cells atlas
  are_sound = (orderly.sound no_supply no_words).sound.1

  pub part_here : (x : ℕ) (c : Cell) → slice_get cs x ≡ Some c → part_of no_supply no_words c.part ≡ cells x
  unfolding cells
  part_here x c is = sym (ap (λ o. (entity_in no_supply no_words x o).cell) is)

  pub locus_at : (x : ℕ) (c : Cell) (l : Locus) → slice_get cs x ≡ Some c → c.part ≡ part.Locus (Some l) → cells x ≡ LocusCell (locus_of l)
  locus_at x c l is at = sym (part_here x c is) ∙ ap (part_of no_supply no_words) at

  -- a locus in the table is ready, and has a number above 40
  pub ready_at : (x : ℕ) (c : Cell) (l : Locus) → slice_get cs x ≡ Some c → c.part ≡ part.Locus (Some l) → IsReadyLocus (locus_of l)
  ready_at x c l is at = ready atlas (locus_of l) (locus_here atlas cells x (locus_of l) are_sound (locus_at x c l is at)).1

  pub high_at : (x : ℕ) (c : Cell) (l : Locus) → slice_get cs x ≡ Some c → c.part ≡ part.Locus (Some l) → 40 < x
  high_at x c l is at = subst (HasKind x) at (orderly.kinds x c is)

  module _ (me : ℕ) (i : Instr) (p : Reach) (planned : IsPlannedAt cs me i p) (a : Cell) (is : slice_get cs me ≡ Some a) where
    pub plan_of : IsPlanned a i p
    plan_of = subst (λ c. IsPlanned c i p) (same_Some planned.cell a (sym planned.is ∙ is)) planned.plan

  -- BESIDE
  pub record FacesOther (a b : Cell) (i : Instr) : Type 0 where
    pub planned : IsPlanned a i (reach.Beside b.clock.entity)
    pub fits : FitsBeside i b.part
    pub apart : b.clock.entity ≢ a.clock.entity
    pub few : (a.clock.version < 2 ^ 63) × (b.clock.version < 2 ^ 63)

  pub faces_other : (me y : ℕ) (i : Instr) → AreFewWrites cs → IsPlannedAt cs me i (reach.Beside y) → (a b : Cell) → slice_get cs me ≡ Some a → slice_get cs y ≡ Some b → FacesOther a b i
  faces_other me y i few planned a b is_a is_b =
      let p = plan_of me i (reach.Beside y) planned a is_a in
      let at_a = orderly.numbers.each me a is_a in
      let at_b = orderly.numbers.each y b is_b in
      let f = fits_here atlas cells me (locus_of p.locus) are_sound (locus_at me a p.locus is_a p.runs.is) no_supply no_words i y b.part
      (subst (λ m. Rattle.cell_steps.specs.cell_plans.Plans.IsCallBeside m (locus_of p.locus) i y) at_a p.wants) (part_here y b is_b) in
      record {
        planned = subst (λ z. IsPlanned a i (reach.Beside z)) (sym at_b) p;
        fits = f.0;
        apart = λ e. f.1 (sym at_b ∙ e ∙ at_a);
        few = (few me a is_a, few y b is_b);
      }

  -- the other isn't the locus
  pub other_apart : (me y : ℕ) (i : Instr) → IsPlannedAt cs me i (reach.Beside y) → (b : Cell) → slice_get cs y ≡ Some b → y ≢ me
  other_apart me y i planned b is_b =
      let p = planned.plan in
      (fits_here atlas cells me (locus_of p.locus) are_sound (locus_at me planned.cell p.locus planned.is p.runs.is) no_supply no_words i y b.part
      (subst (λ m. Rattle.cell_steps.specs.cell_plans.Plans.IsCallBeside m (locus_of p.locus) i y) (orderly.numbers.each me planned.cell planned.is) p.wants) (part_here y b is_b)).1

  -- what fits a call is born
  pub fits_born : (i : Instr) (x : ℕ) (b : Cell) → slice_get cs x ≡ Some b → FitsBeside i b.part → cells x ≡ NotBorn → ⊥
  fits_born i x b is fits none = by b.part fits (part_here x b is ∙ none)
    where
      by : (p : Part) → FitsBeside i p → part_of no_supply no_words p ≡ NotBorn → ⊥
      by (part.Atlas d) fits e = cc
      by (part.Locus (Some l)) fits e = cc
      by (part.Locus None) fits e = (let none = fits.0 in cc)
      by (part.Container b) fits e = head b.head fits.0 e
        where
          head : (o : Option Head) → IsSome o → container_cell no_supply no_words b.memory o ≡ NotBorn → ⊥
          head (Some h) some e = cc
          head None some e = cc
