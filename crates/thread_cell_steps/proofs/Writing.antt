-- A step writes none but the cells that are lent for it.
use Rattle.std.proofs.Common.{◌≡◌, ◌≢◌, inl, inr, ℕ, Bool, true, false, ◌==◌, ◌||◌, if◌then◌else◌, List, [], ◌∷◌, slice_get, Some, refl, sym, ap, subst, ◌∙◌, eq-eqb, ne_eqb}
use Rattle.std.specs.Option.{option_to_list}
use Rattle.base_types.specs.declared.histories.Entry.{Entry}
use Rattle.base_types.specs.declared.instructions.Instr.{Instr}
use Rattle.page_store.specs.model_kernel.Histories.{writes}
use Rattle.page_store.specs.model_kernel.State.{AtlasState, EntityState, KernelState, Supply}
use Rattle.page_store.specs.model_kernel.Steps.{atlas_in, step}
use Rattle.table_laws.specs.cell_steps.data_stamps.Stamps.{component}
use Rattle.table_laws.specs.data_atlas_facts.Directory.{Directory}
use Rattle.table_laws.specs.act_alone.Loci.{locus_of}
use Rattle.table_laws.specs.act_calls.Calls.{atlas_state}
use Rattle.table_laws.specs.cell_states.declared.cells.Cell.{Cell}
use Rattle.table_laws.specs.cell_states.Cells.{HasCell, part_of}
use Rattle.table_laws.specs.cell_looks.Looking.{HasCellWith, part_with}
use Rattle.table_laws.specs.cell_plans.Plans.{IsPlanned}
use Rattle.table_laws.specs.cell_plans.declared.plans.Reach.{Reach}
use Rattle.table_laws.specs.cell_plans.declared.plans.Reach.TheVariants as reach
use Rattle.table_laws.specs.cell_steps.Advances.{AdvancesSomehow}
use Rattle.table_laws.specs.Steps.{HasDirectory, StepsQuietly}
use Rattle.table_laws.specs.Tables.{entity_in, state_in}
use Rattle.table_laws.proofs.Having.{has_cell, no_supply, no_words}
use Rattle.cell_step_laws.specs.Touching.{IsTouchedBy}
use Rattle.cell_step_laws.proofs.Noted.{made}
use Rattle.cell_step_laws.proofs.Touched.{plan_writes}
use Rattle.thread_history.specs.Rules.{is_among}
use Rattle.thread_steps.specs.Lending.{touched_by}

pub among_first : (x y : ℕ) (ys : List ℕ) → x ≡ y → is_among x (y ∷ ys) ≡ true
among_first x y ys same = ap (λ (t : Bool). t || is_among x ys) (eq-eqb y x (sym same))

pub among_later : (x y : ℕ) (ys : List ℕ) → is_among x ys ≡ true → is_among x (y ∷ ys) ≡ true
among_later x y ys later = by (y == x) (is_among x ys) later
  where
    by : (s t : Bool) → t ≡ true → (s || t) ≡ true
    by true t is = refl
    by false t is = is

-- what a plan touches is in its list
touched_among : (a : AtlasState) (x : ℕ) (r : Reach) → IsTouchedBy r a x → is_among x (touched_by a r) ≡ true
touched_among a x (reach.Alone own) touched = absurd touched
touched_among a x (reach.Beside y) touched = among_first x y [] touched
touched_among a x (reach.Look y) touched = among_first x y [] touched
touched_among a x (reach.Mapping y) (inl none) = among_first x 0 (y ∷ []) none
touched_among a x (reach.Mapping y) (inr other) = among_later x 0 (y ∷ []) (among_first x y [] other)
touched_among a x reach.Make (inl none) = among_first x 0 _ none
touched_among a x reach.Make (inr born) = among_later x 0 _ (ap (λ o. is_among x (option_to_list o)) born ∙ among_first x x [] refl)
touched_among a x reach.Spawn (inl none) = among_first x 0 _ none
touched_among a x reach.Spawn (inr born) = among_later x 0 _ (ap (λ o. is_among x (option_to_list o)) born ∙ among_first x x [] refl)

module _ (c : Cell) (i : Instr) (r : Reach) (planned : IsPlanned c i r) (e : Entry) (s : Supply) (words : ℕ → List ℕ) (w v : KernelState) (has : HasCell s words w c)
    (is : step s c.clock.entity w ≡ Some (e, v)) (lent : List ℕ) (x : ℕ) (wrote : writes e x ≡ true) where
  wrote_lent : (IsTouchedBy r (atlas_in (w 0).cell) x → is_among x lent ≡ true) → is_among x (c.clock.entity ∷ lent) ≡ true
  wrote_lent other =
      elim (plan_writes s c.clock.entity w e (locus_of planned.locus) i r x (made s c.clock.entity w v e is) (has.part ∙ ap (part_of s words) planned.runs.is) planned.wants wrote)
      as (λ _. is_among x (c.clock.entity ∷ lent) ≡ true) [
        | inl own ↦ among_first x c.clock.entity lent own
        | inr its ↦ among_later x c.clock.entity lent (other its)
      ]

module _ (cs : List Cell) (d : Directory) (has : HasDirectory cs d) (c : Cell) (at : slice_get cs c.clock.entity ≡ Some c) (i : Instr) (r : Reach) (planned : IsPlanned c i r) (e : Entry) (lent : List ℕ)
    (numbers : lent ≡ touched_by (atlas_state d) r) where
  atlas_here : atlas_in (state_in no_supply no_words cs 0).cell ≡ atlas_state d
  atlas_here = ap (λ o. atlas_in (entity_in no_supply no_words 0 o).cell) has.is ∙ ap (λ p. atlas_in (part_of no_supply no_words p)) has.part

  pub only_quiet : (cs' : List Cell) → StepsQuietly c.clock.entity cs cs' e → (x : ℕ) → writes e x ≡ true → is_among x (c.clock.entity ∷ lent) ≡ true
  only_quiet cs' quiet x wrote =
      wrote_lent c i r planned e no_supply no_words (state_in no_supply no_words cs) (state_in no_supply no_words cs')
      (has_cell no_supply no_words (state_in no_supply no_words cs) c (ap (entity_in no_supply no_words c.clock.entity) at)) (quiet.goes no_supply no_words).step lent x wrote
      (λ touched. subst (λ ns. is_among x ns ≡ true) (sym numbers) (touched_among (atlas_state d) x r (subst (λ a. IsTouchedBy r a x) atlas_here touched)))

-- A LOOK, whatever the store tells: in a state with words at which it is the step
module _ (c o c' o' : Cell) (apart : c.clock.entity ≢ o.clock.entity) (e : Entry) (advances : AdvancesSomehow c c' o o' e) (i : Instr) (y : ℕ) (planned : IsPlanned c i (reach.Look y)) (here : o.clock.entity ≡ y) where
  before : ℕ → ℕ
  before = advances.steps.before (λ n. 0)

  entity_looked : EntityState
  unfolding before
  entity_looked = record { cell = part_with before o.part; version = o.clock.version; stamp = λ n. component o.clock.stamp n }

  w : KernelState
  w = λ z. if z == o.clock.entity then entity_looked else entity_in no_supply no_words z (Some c)

  at_o : w o.clock.entity ≡ entity_looked
  unfolding w
  at_o = ap (λ (t : Bool). if t then entity_looked else entity_in no_supply no_words o.clock.entity (Some c)) (eq-eqb o.clock.entity o.clock.entity refl)

  has_c : HasCell no_supply no_words w c
  unfolding w
  has_c = has_cell no_supply no_words w c (ap (λ (t : Bool). if t then entity_looked else entity_in no_supply no_words c.clock.entity (Some c)) (ne_eqb c.clock.entity o.clock.entity apart))

  has_o : HasCellWith before w o
  unfolding entity_looked
  has_o = record {
    part = ap (λ (k : EntityState). k.cell) at_o;
    clock = record { version = ap (λ (k : EntityState). k.version) at_o; stamp = λ n. ap (λ (k : EntityState). k.stamp n) at_o };
  }

  pub only_look : (x : ℕ) → writes e x ≡ true → is_among x (c.clock.entity ∷ o.clock.entity ∷ []) ≡ true
  unfolding before
  only_look x wrote =
      let stepped = advances.steps.step (λ n. 0) no_supply no_words w has_c has_o in
      wrote_lent c i (reach.Look y) planned e no_supply no_words w stepped.0 has_c stepped.1 (o.clock.entity ∷ []) x wrote
      (λ (touched : x ≡ y). among_first x o.clock.entity [] (touched ∙ sym here))
