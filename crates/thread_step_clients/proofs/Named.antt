-- Who is lent to the step of the locus with a number, by whom the step touches: what `step_cells` asks of these cells, and what it says of the table.
use Rattle.std.proofs.Common.{◌≡◌, ◌≢◌, inl, inr, ℕ, zero, suc, ◌<◌, ◌^◌, Bool, List, [], ◌∷◌, get_or, slice_get, slice_set, Some, refl, sym, ap, subst, ◌∙◌, arith}
use Rattle.std.specs.Prelude.{Result}
use Rattle.std.proofs.lemmas.Option.{same_Some, slice_get-get_or}
use Rattle.base_types.specs.declared.instructions.Instr.{Instr}
use Rattle.page_store.specs.declared.store.PageStore.{Ghosts}
use Rattle.page_store.specs.model_kernel.State.{Supply}
use Rattle.thread_cell_steps.specs.table_laws.act_calls.Calls.{atlas_state}
use Rattle.thread_cell_steps.specs.table_laws.cell_states.Cells.{part_of}
use Rattle.thread_cell_steps.specs.table_laws.cell_states.declared.cells.Cell.{Cell}
use Rattle.thread_cell_steps.specs.table_laws.cell_plans.Plans.{IsPlanned, idle_of}
use Rattle.thread_cell_steps.specs.table_laws.cell_plans.declared.plans.Reach.{Reach}
use Rattle.thread_cell_steps.specs.table_laws.cell_plans.declared.plans.Reach.TheVariants as reach
use Rattle.thread_cell_steps.specs.table_laws.Steps.{IsPlannedAt}
use Rattle.thread_cell_steps.specs.table_laws.Tables.{AreFewWrites, IsOrderly, state_in}
use Rattle.thread_cell_steps.proofs.table_laws_lemmas.cell_plans_lemmas.Once.{planned_goes}
use Rattle.thread_cell_steps.proofs.table_laws_lemmas.Facing.{are_sound, atlas, cells, high_at, no_supply, no_words, other_apart, plan_of}
use Rattle.thread_cell_steps.proofs.table_laws_lemmas.Having.{state_has_all}
use Rattle.thread_cell_steps.proofs.table_steps_lemmas.FacingLook.{look_below}
use Rattle.thread_cell_steps.specs.table_steps.declared.stepping.Made.{Made}
use Rattle.thread_cell_steps.specs.table_steps.declared.stepping.StepFault.{StepFault}
use Rattle.thread_cell_steps.specs.thread_steps.Lending.{AreLent, MayStep, numbers_of, touched_by}
use Rattle.thread_cell_steps.proofs.thread_steps_lemmas.Arms.{no_look_planned}
use Rattle.thread_cell_steps.proofs.thread_steps_lemmas.Numbers.{none_is}
use Rattle.thread_cell_steps.specs.Advancing.{HasAdvanced, MayAdvance, with_cells}
use Rattle.thread_cell_steps.proofs.Shapes.{may_alone, may_atlas, may_both, may_other}
use Rattle.thread_cell_steps.proofs.Touching.{directory_in, no_look_first, two_apart, two_no_look}
use Rattle.thread_step_clients.specs.Naming.{IsIdleAt, TouchesNext, TouchesNone}
use Rattle.thread_step_clients.proofs.Stepped.{HasStepped, alone_said, atlas_said, both_said, idle_said, lent, look_said, none_some, other_said}

no_cell : (k : Cell) → [] ≡ k ∷ [] → ⊥
no_cell k e = cc

one_few : (a : Cell) → a.clock.version < 2 ^ 63 → AreFewWrites (a ∷ [])
one_few a low zero c is = subst (λ (k : Cell). k.clock.version < 2 ^ 63) (same_Some a c is) low
one_few a low (suc n) c is = absurd (cc is)

no_look_beside : (x y : ℕ) → reach.Beside x ≡ reach.Look y → ⊥
no_look_beside x y e = cc

-- WHO IS TOUCHED IS ANOTHER
module _ (held : ℕ → Bool) (cs : List Cell) (orderly : IsOrderly held cs) (me : ℕ) where
  -- a cell of the table
  there : (n : ℕ) → n < 64 → (c : Cell) → slice_get cs n ≡ Some (get_or cs n c)
  there n low c =
      let count = orderly.numbers.len in
      slice_get-get_or cs n c (omega (arith, count, low))

  -- a locus isn't the first cell
  pub locus_some : (i : Instr) (r : Reach) → IsPlannedAt cs me i r → 0 < me
  locus_some i r planned =
      let high = high_at held cs orderly me planned.cell planned.plan.locus planned.is planned.plan.runs.is in
      omega (arith, high)

  pub beside_apart : (i : Instr) (y : ℕ) → IsPlannedAt cs me i (reach.Beside y) → y < 64 → y ≢ me
  beside_apart i y planned low = other_apart held cs orderly me y i planned (get_or cs y planned.cell) (there y low planned.cell)

  pub both_apart : (y : ℕ) → TouchesNext cs me (0 ∷ y ∷ []) → y < 64 → (0 < me) × (0 < y) × (me ≢ y)
  both_apart y t low =
      let a = t.planned.cell in
      let k = get_or cs 0 t.planned.cell in
      let o = get_or cs y t.planned.cell in
      let at_me : t.planned.cell.clock.entity ≡ me = orderly.numbers.each me t.planned.cell t.planned.is in
      let is_k = there 0 (omega arith) t.planned.cell in
      let is_o = there y low t.planned.cell in
      let at_k = orderly.numbers.each 0 k is_k in
      let at_o = orderly.numbers.each y o is_o in
      let f = two_apart held cs orderly t.directory t.has a (ap (slice_get cs) at_me ∙ t.planned.is) t.instr k o (ap (slice_get cs) at_k ∙ is_k) (ap (slice_get cs) at_o ∙ is_o) t.reach t.planned.plan
      ((λ u. at_k u ∷ at_o u ∷ []) ∙ t.these) in
      (locus_some t.instr t.reach t.planned, above y (λ none. f.1 (at_o ∙ none)), (λ same. f.2 (at_me ∙ same ∙ sym at_o)))
    where
      above : (n : ℕ) → n ≢ 0 → 0 < n
      above zero some = absurd (some refl)
      above (suc n) some = omega arith

module _ {B : Type 0} (stores : Ghosts B) (stays : (b : B) → stores.Pages b b) (s : Supply) (cs : List Cell) (b : B) (may : MayAdvance stores s cs b) (me : ℕ) (a : Cell) (is : slice_get cs me ≡ Some a) where
  at_me : a.clock.entity ≡ me
  at_me = may.orderly.numbers.each me a is

  at : slice_get cs a.clock.entity ≡ Some a
  at = ap (slice_get cs) at_me ∙ is

  for_me : (cs' : List Cell) (b' : B) (came : Result Made StepFault) → HasAdvanced stores s a.clock.entity cs cs' b b' came → HasAdvanced stores s me cs cs' b b' came
  for_me cs' b' came advanced = subst (λ m. HasAdvanced stores s m cs cs' b b' came) at_me advanced

  plan : (i : Instr) (r : Reach) → IsPlannedAt cs me i r → IsPlanned a i r
  plan i r planned = plan_of (stores.held b) cs may.orderly me i r planned a is

  -- THE LOCUS ALONE, which may be idle
  module _ (t : IsIdleAt cs me) where
    idle_here : (z : Supply) (words : ℕ → List ℕ) → idle_of a.left (part_of z words a.part) ≡ Some t.why
    idle_here = subst (λ (k : Cell). (z : Supply) (words : ℕ → List ℕ) → idle_of k.left (part_of z words k.part) ≡ Some t.why) (same_Some t.cell a (sym t.is ∙ is)) t.idle

    no_plan : (i : Instr) (r : Reach) → IsPlanned a i r → ⊥
    no_plan i r p = none_some t.why (sym (planned_goes a i r p no_supply no_words) ∙ idle_here no_supply no_words)

    idle_lent : AreLent a [] []
    unfolding cells
    idle_lent = record {
      supply = no_supply;
      words = no_words;
      state = state_in no_supply no_words cs;
      directory = atlas (stores.held b) cs may.orderly;
      sound = are_sound (stores.held b) cs may.orderly;
      has = state_has_all no_supply no_words cs (a ∷ []) (at, tt);
      first = λ k same. absurd (no_cell k same);
      apart = λ e same. absurd (no_cell e same);
      kind = λ e same. absurd (no_cell e same);
      touched = λ i r p. absurd (no_plan i r p);
    }

    idle_may : MayStep stores s (lent a [] [] [])
    idle_may = record { lent = idle_lent; few = one_few a (may.few me a is); given = λ i y p. absurd (no_plan i (reach.Look y) p) }

  look_alone : (t : TouchesNext cs me []) (y : ℕ) → t.reach ≢ reach.Look y
  look_alone t y look = none_is _ _ (sym (t.these ∙ ap (touched_by (atlas_state t.directory)) look))

  pub locus_may : TouchesNone cs me → MayStep stores s (lent a [] [] [])
  locus_may (inl t) = idle_may t
  locus_may (inr t) = may_alone stores stays s cs b may a at t.directory t.has t.instr t.reach (plan t.instr t.reach t.planned) t.these

  pub locus_done : TouchesNone cs me → (n : ℕ) → n ≡ me → (a' : Cell) (came : Result Made StepFault) → HasStepped stores s (lent a [] [] []) (lent a' [] [] []) came → HasAdvanced stores s me cs (slice_set cs n a') b b came
  locus_done (inl t) n place a' came said =
      subst (λ m. HasAdvanced stores s me cs (slice_set cs m a') b b came) (at_me ∙ sym place)
      (for_me (with_cells cs (a ∷ []) (a' ∷ [])) b came (idle_said stores stays s cs b may a at t.why (idle_here t) a' came said))
  locus_done (inr t) n place a' came said =
      subst (λ m. HasAdvanced stores s me cs (slice_set cs m a') b b came) (at_me ∙ sym place)
      (for_me (with_cells cs (a ∷ []) (a' ∷ [])) b came
      (alone_said stores stays s cs b may a at t.directory t.has t.instr t.reach (plan t.instr t.reach t.planned) t.these (look_alone t) a' came said))

  -- BESIDE THE ATLAS
  module _ (t : TouchesNext cs me (0 ∷ [])) (k : Cell) (is_k : slice_get cs 0 ≡ Some k) where
    zero_at : k.clock.entity ≡ 0
    zero_at = may.orderly.numbers.each 0 k is_k

    at_k : slice_get cs k.clock.entity ≡ Some k
    at_k = ap (slice_get cs) zero_at ∙ is_k

    these_k : numbers_of (k ∷ []) ≡ touched_by (atlas_state t.directory) t.reach
    these_k = ap (λ n. n ∷ []) zero_at ∙ t.these

    pub atlas_may : MayStep stores s (lent a (k ∷ []) [] [])
    atlas_may = may_atlas stores stays s cs b may a at t.directory t.has t.instr t.reach (plan t.instr t.reach t.planned) k at_k zero_at these_k

    pub atlas_done : (a' k' : Cell) (cs' : List Cell) → cs' ≡ with_cells cs (a ∷ k ∷ []) (a' ∷ k' ∷ []) → (came : Result Made StepFault) → HasStepped stores s (lent a (k ∷ []) [] []) (lent a' (k' ∷ []) [] []) came
        → HasAdvanced stores s me cs cs' b b came
    atlas_done a' k' cs' back came said =
        subst (λ l. HasAdvanced stores s me cs l b b came) (sym back)
        (for_me (with_cells cs (a ∷ k ∷ []) (a' ∷ k' ∷ [])) b came
        (atlas_said stores stays s cs b may a at t.directory t.has t.instr t.reach (plan t.instr t.reach t.planned) k at_k zero_at these_k
        (no_look_first (stores.held b) cs may.orderly t.directory t.has a at t.instr t.reach (plan t.instr t.reach t.planned) k zero_at these_k) a' k' came said))

  -- BESIDE ANOTHER ENTITY, without its pages or with them
  module _ (y : ℕ) (i : Instr) (o : Cell) (is_o : slice_get cs y ≡ Some o) where
    at_y : o.clock.entity ≡ y
    at_y = may.orderly.numbers.each y o is_o

    at_o : slice_get cs o.clock.entity ≡ Some o
    at_o = ap (slice_get cs) at_y ∙ is_o

    module _ (planned : IsPlannedAt cs me i (reach.Beside y)) (apart : y ≢ 0) where
      no_atlas : o.clock.entity ≢ 0
      no_atlas none = apart (sym at_y ∙ none)

      pub other_may : MayStep stores s (lent a [] (o ∷ []) [])
      other_may =
          let f = directory_in (stores.held b) cs may.orderly a in
          let p = plan i (reach.Beside y) planned in
          let m = may_other stores stays s cs b may a at f.0 f.1 i (reach.Beside y) p o at_o no_atlas (ap (λ n. n ∷ []) at_y) in
          record { lent = m.lent; few = m.few; given = λ j z look. absurd (no_look_planned a i (reach.Beside y) p (no_look_beside y) j z look) }

      pub other_done : (a' o' : Cell) (cs' : List Cell) → cs' ≡ with_cells cs (a ∷ o ∷ []) (a' ∷ o' ∷ []) → (came : Result Made StepFault) → HasStepped stores s (lent a [] (o ∷ []) []) (lent a' [] (o' ∷ []) []) came
          → HasAdvanced stores s me cs cs' b b came
      other_done a' o' cs' back came said =
          let f = directory_in (stores.held b) cs may.orderly a in
          subst (λ l. HasAdvanced stores s me cs l b b came) (sym back)
          (for_me (with_cells cs (a ∷ o ∷ []) (a' ∷ o' ∷ [])) b came
          (other_said stores stays s cs b may a at f.0 f.1 i (reach.Beside y) (plan i (reach.Beside y) planned) o at_o no_atlas (ap (λ n. n ∷ []) at_y) (no_look_beside y) a' o' came said))

    module _ (planned : IsPlannedAt cs me i (reach.Look y)) where
      no_atlas_looked : o.clock.entity ≢ 0
      no_atlas_looked none =
          let below = look_below (stores.held b) cs may.orderly me y i planned in
          let here = at_y in
          absurd (omega (arith, below.0, here, none))

      pub look_may : MayStep stores s (lent a [] (o ∷ []) (b ∷ []))
      look_may =
          let f = directory_in (stores.held b) cs may.orderly a in
          may_other stores stays s cs b may a at f.0 f.1 i (reach.Look y) (plan i (reach.Look y) planned) o at_o no_atlas_looked (ap (λ n. n ∷ []) at_y)

      pub look_done : (a' o' : Cell) (b' : B) (cs' : List Cell) → cs' ≡ with_cells cs (a ∷ o ∷ []) (a' ∷ o' ∷ []) → (came : Result Made StepFault)
          → HasStepped stores s (lent a [] (o ∷ []) (b ∷ [])) (lent a' [] (o' ∷ []) (b' ∷ [])) came → HasAdvanced stores s me cs cs' b b' came
      look_done a' o' b' cs' back came said =
          let f = directory_in (stores.held b) cs may.orderly a in
          subst (λ l. HasAdvanced stores s me cs l b b' came) (sym back)
          (for_me (with_cells cs (a ∷ o ∷ []) (a' ∷ o' ∷ [])) b' came
          (look_said stores stays s cs b may a at f.0 f.1 i (reach.Look y) (plan i (reach.Look y) planned) o a' o' b' y refl at_o no_atlas_looked (ap (λ n. n ∷ []) at_y) came said))

  -- BESIDE THE ATLAS AND ANOTHER ENTITY
  module _ (y : ℕ) (t : TouchesNext cs me (0 ∷ y ∷ [])) (k o : Cell) (is_k : slice_get cs 0 ≡ Some k) (is_o : slice_get cs y ≡ Some o) where
    k_at : k.clock.entity ≡ 0
    k_at = may.orderly.numbers.each 0 k is_k

    o_at : o.clock.entity ≡ y
    o_at = may.orderly.numbers.each y o is_o

    k_stands : slice_get cs k.clock.entity ≡ Some k
    k_stands = ap (slice_get cs) k_at ∙ is_k

    o_stands : slice_get cs o.clock.entity ≡ Some o
    o_stands = ap (slice_get cs) o_at ∙ is_o

    these_both : numbers_of (k ∷ o ∷ []) ≡ touched_by (atlas_state t.directory) t.reach
    these_both = (λ u. k_at u ∷ o_at u ∷ []) ∙ t.these

    pub both_may : MayStep stores s (lent a (k ∷ []) (o ∷ []) [])
    both_may = may_both stores stays s cs b may a at t.directory t.has t.instr t.reach (plan t.instr t.reach t.planned) k o k_stands o_stands these_both

    pub both_done : (a' k' o' : Cell) (cs' : List Cell) → cs' ≡ with_cells cs (a ∷ k ∷ o ∷ []) (a' ∷ k' ∷ o' ∷ []) → (came : Result Made StepFault)
        → HasStepped stores s (lent a (k ∷ []) (o ∷ []) []) (lent a' (k' ∷ []) (o' ∷ []) []) came → HasAdvanced stores s me cs cs' b b came
    both_done a' k' o' cs' back came said =
        subst (λ l. HasAdvanced stores s me cs l b b came) (sym back)
        (for_me (with_cells cs (a ∷ k ∷ o ∷ []) (a' ∷ k' ∷ o' ∷ [])) b came
        (both_said stores stays s cs b may a at t.directory t.has t.instr t.reach (plan t.instr t.reach t.planned) k o k_stands o_stands these_both
        (two_no_look (stores.held b) cs may.orderly t.directory t.has a at t.instr k o t.reach these_both) a' k' o' came said))
