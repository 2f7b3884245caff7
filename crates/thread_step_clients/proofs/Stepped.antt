-- What `step_cells` says of cells that are lent from a table is what `advance` of `table_steps` says of the table.
use Rattle.std.proofs.Common.{◌≡◌, ◌≢◌, ℕ, List, [], ◌∷◌, slice_get, Some, None, Ok, Err, refl, sym, ap, subst, ◌∙◌}
use Rattle.std.specs.Prelude.{◌↔◌, IfErr, IfOk, IsErrOf, Result}
use Rattle.base_types.specs.declared.histories.Entry.{Entry}
use Rattle.base_types.specs.declared.instructions.Instr.{Instr}
use Rattle.page_store.specs.declared.faults.PageFault.{PageFault}
use Rattle.page_store.specs.declared.faults.PageFault.TheVariants as page
use Rattle.page_store.specs.declared.store.PageStore.{Ghosts}
use Rattle.page_store.specs.model_kernel.State.{Supply}
use Rattle.thread_cell_steps.specs.table_laws.edge_disk.declared.disk.NoBlocks.{NoBlocks}
use Rattle.thread_cell_steps.specs.table_laws.data_atlas_facts.Directory.{Directory}
use Rattle.thread_cell_steps.specs.table_laws.act_calls.Calls.{atlas_state}
use Rattle.thread_cell_steps.specs.table_laws.cell_states.Cells.{part_of}
use Rattle.thread_cell_steps.specs.table_laws.cell_states.declared.cells.Cell.{Cell}
use Rattle.thread_cell_steps.specs.table_laws.cell_plans.Plans.{IsPlanned, idle_of}
use Rattle.thread_cell_steps.specs.table_laws.cell_plans.declared.idle.Idle.{Idle}
use Rattle.thread_cell_steps.specs.table_laws.cell_plans.declared.plans.Reach.{Reach}
use Rattle.thread_cell_steps.specs.table_laws.cell_plans.declared.plans.Reach.TheVariants as reach
use Rattle.thread_cell_steps.proofs.table_laws_lemmas.cell_plans_lemmas.Once.{planned_goes}
use Rattle.thread_cell_steps.proofs.table_laws_lemmas.Facing.{no_supply, no_words}
use Rattle.thread_cell_steps.specs.table_laws.Steps.{HasDirectory}
use Rattle.thread_cell_steps.specs.table_steps.declared.stepping.Made.{Made}
use Rattle.thread_cell_steps.specs.table_steps.declared.stepping.StepFault.{StepFault}
use Rattle.thread_cell_steps.specs.table_steps.declared.stepping.StepFault.TheVariants.{Idle as IdleFor, Paging}
use Rattle.thread_cell_steps.specs.thread_steps.Lending.{Lent, cells_of, numbers_of, touched_by}
use Rattle.thread_cell_steps.specs.thread_steps.Stepping.{FaultsAt, FaultsLent, FaultsLooking, IsLentShort, LooksAt, StepsApart, StepsLent}
use Rattle.thread_cell_steps.proofs.thread_steps_lemmas.Arms.{no_look_planned}
use Rattle.thread_cell_steps.specs.Advancing.{HasAdvanced, MayAdvance, with_cells}
use Rattle.thread_cell_steps.proofs.Advanced.{idle_by}
use Rattle.thread_cell_steps.proofs.Shapes.{by_alone, by_atlas, by_beside, by_both, by_look}

-- WHAT THE CALL SAYS of what is lent, and of how that is left
pub record HasStepped {B : Type 0} (stores : Ghosts B) (s : Supply) (x y : Lent B) (came : Result Made StepFault) : Type 0 where
  pub idle : (z : Supply) (words : ℕ → List ℕ) (why : Idle) → IsErrOf came (IdleFor why) ↔ (idle_of x.locus.left (part_of z words x.locus.part) ≡ Some why)
  pub still : (why : Idle) → IsErrOf came (IdleFor why) → y ≡ x
  pub step : IfOk came (StepsLent stores s x y)
  pub faulted : (f : PageFault) → IsErrOf came (Paging f) → FaultsLent stores s x y f
  pub no_blocks : (n : NoBlocks) → IsErrOf came (Paging (page.NoBlocks n)) ↔ IsLentShort stores x n
  pub numbers : numbers_of (cells_of y) ≡ numbers_of (cells_of x)

-- these cells with this store, or with none
abbrev pub lent : {B : Type 0} → Cell → List Cell → List Cell → List B → Lent B
lent c atlas other store = record { locus = c; atlas = atlas; other = other; store = store }

pub none_some : (why : Idle) → None ≡ Some why → ⊥
none_some why e = cc

-- without a store there is no fault of paging
no_fault : {B : Type 0} (stores : Ghosts B) (s : Supply) (c c' : Cell) (ds ds' : List Cell) (f : PageFault) → FaultsLooking stores s c c' ds ds' [] [] f → ⊥
no_fault stores s c c' [] ds' f faults = faults
no_fault stores s c c' (d ∷ []) [] f faults = faults
no_fault stores s c c' (d ∷ []) (e ∷ []) f faults = faults
no_fault stores s c c' (d ∷ []) (e ∷ g ∷ ds') f faults = faults
no_fault stores s c c' (d ∷ e ∷ ds) ds' f faults = faults

module _ {B : Type 0} (stores : Ghosts B) (stays : (b : B) → stores.Pages b b) (s : Supply) (cs : List Cell) (b : B) (may : MayAdvance stores s cs b)
    (c : Cell) (at : slice_get cs c.clock.entity ≡ Some c) where
  -- AN IDLE LOCUS
  pub idle_said : (why : Idle) → ((z : Supply) (words : ℕ → List ℕ) → idle_of c.left (part_of z words c.part) ≡ Some why) → (c' : Cell) (came : Result Made StepFault)
      → HasStepped stores s (lent c [] [] []) (lent c' [] [] []) came → HasAdvanced stores s c.clock.entity cs (with_cells cs (c ∷ []) (c' ∷ [])) b b came
  idle_said why idle c' came said =
      let is : came ≡ Err (IdleFor why) = (said.idle no_supply no_words why).1 (idle no_supply no_words) in
      let same : c' ≡ c = ap (λ (x : Lent B). x.locus) (said.still why is) in
      subst (λ (r : Result Made StepFault). HasAdvanced stores s c.clock.entity cs (with_cells cs (c ∷ []) (c' ∷ [])) b b r) (sym is)
      (subst (λ (k : Cell). HasAdvanced stores s c.clock.entity cs (with_cells cs (c ∷ []) (k ∷ [])) b b (Err (IdleFor why))) (sym same)
      (idle_by stores stays s cs b may c at why idle [] tt).advanced)

  module _ (d : Directory) (has : HasDirectory cs d) (i : Instr) (r : Reach) (planned : IsPlanned c i r) where
    -- a locus with a plan isn't idle
    no_idle : (x y : Lent B) (came : Result Made StepFault) → x.locus ≡ c → HasStepped stores s x y came → (why : Idle) → came ≡ Err (IdleFor why) → ⊥
    no_idle x y came same said why is =
        none_some why (sym (planned_goes c i r planned no_supply no_words)
        ∙ subst (λ (k : Cell). idle_of k.left (part_of no_supply no_words k.part) ≡ Some why) same ((said.idle no_supply no_words why).0 is))

    -- A STEP WITHOUT A STORE, whoever is lent
    quiet_said : (c' : Cell) (atlas atlas' other other' cs' : List Cell) (came : Result Made StepFault) → HasStepped stores s (lent c atlas other []) (lent c' atlas' other' []) came
        → ((y : ℕ) → r ≢ reach.Look y)
        → ((e : Entry) → StepsApart c c' atlas atlas' other other' i e → HasAdvanced stores s c.clock.entity cs cs' b b (Ok (record { entry = e; instr = i })))
        → HasAdvanced stores s c.clock.entity cs cs' b b came
    quiet_said c' atlas atlas' other other' cs' (Ok m) said look made =
        let same : m.instr ≡ i = said.step.instr planned.locus planned.runs.is ∙ sym planned.instr in
        let apart = (said.step.apart (no_look_planned c i r planned look)).0 in
        subst (λ (j : Instr). HasAdvanced stores s c.clock.entity cs cs' b b (Ok (record { entry = m.entry; instr = j }))) (sym same)
        (made m.entry (subst (λ (j : Instr). StepsApart c c' atlas atlas' other other' j m.entry) same apart))
    quiet_said c' atlas atlas' other other' cs' (Err (IdleFor why)) said look made =
        absurd (no_idle (lent c atlas other []) (lent c' atlas' other' []) (Err (IdleFor why)) refl said why refl)
    quiet_said c' atlas atlas' other other' cs' (Err (Paging f)) said look made = absurd (no_fault stores s c c' other other' f (said.faulted f refl))

    -- A STEP THAT LOOKS at a container
    module _ (o c' o' : Cell) (b' : B) (y : ℕ) (look : r ≡ reach.Look y) where
      looked : IsPlanned c i (reach.Look y)
      looked = subst (IsPlanned c i) look planned

      looks_at : (came : Result Made StepFault) → HasStepped stores s (lent c [] (o ∷ []) (b ∷ [])) (lent c' [] (o' ∷ []) (b' ∷ [])) came → IfOk came (λ made. LooksAt stores s c o c' o' b b' made.entry)
      looks_at (Ok m) said = said.step.looking i y looked
      looks_at (Err f) said = tt

      same_instr : (came : Result Made StepFault) → HasStepped stores s (lent c [] (o ∷ []) (b ∷ [])) (lent c' [] (o' ∷ []) (b' ∷ [])) came → IfOk came (λ made. made.instr ≡ i)
      same_instr (Ok m) said = said.step.instr planned.locus planned.runs.is ∙ sym planned.instr
      same_instr (Err f) said = tt

      faults_at : (came : Result Made StepFault) → HasStepped stores s (lent c [] (o ∷ []) (b ∷ [])) (lent c' [] (o' ∷ []) (b' ∷ [])) came
          → IfErr came (λ why. (f : PageFault) × (why ≡ Paging f) × FaultsAt stores s c o c' o' b b' f)
      faults_at (Ok m) said = tt
      faults_at (Err (IdleFor why)) said = absurd (no_idle (lent c [] (o ∷ []) (b ∷ [])) (lent c' [] (o' ∷ []) (b' ∷ [])) (Err (IdleFor why)) refl said why refl)
      faults_at (Err (Paging f)) said = (f, refl, said.faulted f refl)

      pub look_said : slice_get cs o.clock.entity ≡ Some o → o.clock.entity ≢ 0 → numbers_of (o ∷ []) ≡ touched_by (atlas_state d) r → (came : Result Made StepFault)
          → HasStepped stores s (lent c [] (o ∷ []) (b ∷ [])) (lent c' [] (o' ∷ []) (b' ∷ [])) came
          → HasAdvanced stores s c.clock.entity cs (with_cells cs (c ∷ o ∷ []) (c' ∷ o' ∷ [])) b b' came
      look_said there no_atlas these came said =
          (by_look stores stays s cs b may c at d has i r planned o there no_atlas these c' o' said.numbers y look b' came (looks_at came said) (same_instr came said) (faults_at came said) said.no_blocks).advanced

    -- WHO IS LENT
    pub alone_said : [] ≡ touched_by (atlas_state d) r → ((y : ℕ) → r ≢ reach.Look y) → (c' : Cell) (came : Result Made StepFault) → HasStepped stores s (lent c [] [] []) (lent c' [] [] []) came
        → HasAdvanced stores s c.clock.entity cs (with_cells cs (c ∷ []) (c' ∷ [])) b b came
    alone_said these look c' came said =
        quiet_said c' [] [] [] [] (with_cells cs (c ∷ []) (c' ∷ [])) came said look (λ e apart. (by_alone stores stays s cs b may c at d has i r planned these c' e apart).advanced)

    pub atlas_said : (k : Cell) → slice_get cs k.clock.entity ≡ Some k → k.clock.entity ≡ 0 → numbers_of (k ∷ []) ≡ touched_by (atlas_state d) r → ((y : ℕ) → r ≢ reach.Look y) → (c' k' : Cell) (came : Result Made StepFault)
        → HasStepped stores s (lent c (k ∷ []) [] []) (lent c' (k' ∷ []) [] []) came → HasAdvanced stores s c.clock.entity cs (with_cells cs (c ∷ k ∷ []) (c' ∷ k' ∷ [])) b b came
    atlas_said k there zero_at these look c' k' came said =
        quiet_said c' (k ∷ []) (k' ∷ []) [] [] (with_cells cs (c ∷ k ∷ []) (c' ∷ k' ∷ [])) came said look
        (λ e apart. (by_atlas stores stays s cs b may c at d has i r planned k there zero_at these c' k' e apart).advanced)

    pub other_said : (o : Cell) → slice_get cs o.clock.entity ≡ Some o → o.clock.entity ≢ 0 → numbers_of (o ∷ []) ≡ touched_by (atlas_state d) r → ((y : ℕ) → r ≢ reach.Look y) → (c' o' : Cell) (came : Result Made StepFault)
        → HasStepped stores s (lent c [] (o ∷ []) []) (lent c' [] (o' ∷ []) []) came → HasAdvanced stores s c.clock.entity cs (with_cells cs (c ∷ o ∷ []) (c' ∷ o' ∷ [])) b b came
    other_said o there no_atlas these look c' o' came said =
        quiet_said c' [] [] (o ∷ []) (o' ∷ []) (with_cells cs (c ∷ o ∷ []) (c' ∷ o' ∷ [])) came said look
        (λ e apart. (by_beside stores stays s cs b may c at d has i r planned o there no_atlas these c' o' said.numbers look e apart).advanced)

    pub both_said : (k o : Cell) → slice_get cs k.clock.entity ≡ Some k → slice_get cs o.clock.entity ≡ Some o → numbers_of (k ∷ o ∷ []) ≡ touched_by (atlas_state d) r → ((y : ℕ) → r ≢ reach.Look y) → (c' k' o' : Cell) (came : Result Made StepFault)
        → HasStepped stores s (lent c (k ∷ []) (o ∷ []) []) (lent c' (k' ∷ []) (o' ∷ []) []) came
        → HasAdvanced stores s c.clock.entity cs (with_cells cs (c ∷ k ∷ o ∷ []) (c' ∷ k' ∷ o' ∷ [])) b b came
    both_said k o at_k at_o these look c' k' o' came said =
        quiet_said c' (k ∷ []) (k' ∷ []) (o ∷ []) (o' ∷ []) (with_cells cs (c ∷ k ∷ o ∷ []) (c' ∷ k' ∷ o' ∷ [])) came said look
        (λ e apart. (by_both stores stays s cs b may c at d has i r planned k o at_k at_o these c' k' o' e apart).advanced)
