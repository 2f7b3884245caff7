-- A step by the cells that are lent, by which they are: what the call over them asks, and what it says of the table.
use Rattle.std.proofs.Common.{◌≡◌, ◌≢◌, ℕ, List, [], ◌∷◌, slice_get, Some, Ok, Err, refl, sym, ap, subst, ◌∙◌, arith}
use Rattle.std.specs.Prelude.{◌↔◌, IfErr, IfOk, IsErrOf, Result}
use Rattle.base_types.specs.declared.histories.Entry.{Entry}
use Rattle.base_types.specs.declared.instructions.Instr.{Instr}
use Rattle.page_store.specs.declared.faults.PageFault.{PageFault}
use Rattle.page_store.specs.declared.faults.PageFault.TheVariants as page
use Rattle.page_store.specs.declared.store.PageStore.{Ghosts}
use Rattle.page_store.specs.model_kernel.Refusals.{instr_at}
use Rattle.page_store.specs.model_kernel.State.{Supply}
use Rattle.table_laws.specs.edge_disk.declared.disk.NoBlocks.{NoBlocks}
use Rattle.table_laws.specs.data_atlas_facts.Directory.{Directory}
use Rattle.table_laws.specs.act_calls.Calls.{atlas_state}
use Rattle.table_laws.specs.cell_states.declared.cells.Cell.{Cell}
use Rattle.table_laws.specs.act_alone.Loci.{locus_of}
use Rattle.table_laws.specs.act_alone.declared.loci.Locus.{Locus}
use Rattle.table_laws.specs.cell_states.declared.cells.Part.TheVariants as part
use Rattle.table_laws.specs.cell_plans.Plans.{IsPlanned}
use Rattle.table_laws.specs.cell_plans.declared.plans.Reach.{Reach}
use Rattle.table_laws.specs.cell_plans.declared.plans.Reach.TheVariants as reach
use Rattle.table_laws.specs.Lending.{ForPairs, IsSameNumber, Lends}
use Rattle.table_laws.specs.Steps.{HasDirectory, StepsQuietly}
use Rattle.table_steps.specs.declared.stepping.Made.{Made}
use Rattle.table_steps.specs.declared.stepping.StepFault.{StepFault}
use Rattle.table_steps.specs.declared.stepping.StepFault.TheVariants.{Paging}
use Rattle.thread_steps.specs.Lending.{MayStep, numbers_of, touched_by}
use Rattle.thread_steps.specs.Stepping.{FaultsAt, IsLookShortOver, LooksAt, StepsApart}
use Rattle.thread_steps.proofs.Arms.{instr_here}
use Rattle.thread_steps.proofs.FromTable.{may_step}
use Rattle.thread_steps.proofs.Numbers.{first_is, none_is, rest_is}
use Rattle.thread_cell_steps.specs.Advancing.{AdvancesBy, MayAdvance, with_cells}
use Rattle.thread_cell_steps.proofs.Advanced.{fault_advanced, fit_by, look_advanced, quiet_advanced, these_touched}
use Rattle.thread_cell_steps.proofs.Touching.{locus_high, no_look_first, one_apart, two_apart, two_no_look}
use Rattle.thread_cell_steps.proofs.Quietly.{quiet_alone, quiet_atlas, quiet_both, quiet_other}
use Rattle.thread_cell_steps.proofs.Returning.{lends_with}
use Rattle.thread_cell_steps.proofs.Writing.{only_look, only_quiet}

same_only : {A : Type 0} (x y : A) → x ∷ [] ≡ y ∷ [] → x ≡ y
same_only x y e = cc

no_cell : (k : Cell) → [] ≡ k ∷ [] → ⊥
no_cell k e = cc

module _ {B : Type 0} (stores : Ghosts B) (stays : (b : B) → stores.Pages b b) (s : Supply) (cs : List Cell) (b : B) (may : MayAdvance stores s cs b)
    (c : Cell) (at : slice_get cs c.clock.entity ≡ Some c) (d : Directory) (has : HasDirectory cs d) (i : Instr) (r : Reach) (planned : IsPlanned c i r) where
  -- a step that was made by this plan
  abbrev by_plan : Entry → Made
  by_plan e = record { entry = e; instr = i }

  -- what a quiet step says, whoever is lent
  quiet_by : (c' : Cell) (old new : List Cell) (e : Entry) → numbers_of old ≡ touched_by (atlas_state d) r → ForPairs IsSameNumber (c ∷ old) (c' ∷ new) → ((y : ℕ) → r ≢ reach.Look y)
      → StepsQuietly c.clock.entity cs (with_cells cs (c ∷ old) (c' ∷ new)) e → AdvancesBy stores s cs c c' old new b b (Some (Ok (record { entry = e; instr = i })))
  quiet_by c' old new e these pairs look quiet =
      fit_by stores stays s cs b may c at d has i r planned c' old new b (Ok (by_plan e)) these pairs
      (quiet_advanced stores stays s cs b may c at d has i r planned (with_cells cs (c ∷ old) (c' ∷ new)) (by_plan e) quiet (instr_here c i r planned) look)
      (these_touched stores stays s cs b may c at d has i r planned (numbers_of old) (by_plan e) these (instr_here c i r planned)
      (only_quiet cs d has c at i r planned e (numbers_of old) these (with_cells cs (c ∷ old) (c' ∷ new)) quiet))

  -- THE LOCUS ALONE
  module _ (these : [] ≡ touched_by (atlas_state d) r) where
    look_alone : (y : ℕ) → r ≢ reach.Look y
    look_alone y is = none_is _ _ (sym (these ∙ ap (touched_by (atlas_state d)) is))

    pub may_alone : MayStep stores s (record { locus = c; atlas = []; other = []; store = [] })
    may_alone = may_step stores s cs d b i r (record { locus = c; atlas = []; other = []; store = [] }) may.orderly has
        (record {
          locus = at;
          others = tt;
          first = λ k is. absurd (no_cell k is);
          apart = λ e is. absurd (no_cell e is);
          planned = planned;
          numbers = these;
          store = λ y is. absurd (look_alone y is);
        })
        may.few may.clean

    pub by_alone : (c' : Cell) (e : Entry) → StepsApart c c' [] [] [] [] i e → AdvancesBy stores s cs c c' [] [] b b (Some (Ok (record { entry = e; instr = i })))
    by_alone c' e apart =
        let pairs : ForPairs IsSameNumber (c ∷ []) (c' ∷ []) = (first_is _ _ _ _ apart.numbers, tt) in
        let lends = lends_with cs (c ∷ []) (c' ∷ []) (tt, tt) pairs (at, tt) in
        quiet_by c' [] [] e these pairs look_alone
        (quiet_alone (stores.held b) cs may.orderly may.few d has c at i r planned c' i e (with_cells cs (c ∷ []) (c' ∷ [])) apart lends)

  -- WITH THE ATLAS
  module _ (k : Cell) (there : slice_get cs k.clock.entity ≡ Some k) (zero_at : k.clock.entity ≡ 0) (these : numbers_of (k ∷ []) ≡ touched_by (atlas_state d) r) where
    look_atlas : (y : ℕ) → r ≢ reach.Look y
    look_atlas = no_look_first (stores.held b) cs may.orderly d has c at i r planned k zero_at these

    pub may_atlas : MayStep stores s (record { locus = c; atlas = k ∷ []; other = []; store = [] })
    may_atlas = may_step stores s cs d b i r (record { locus = c; atlas = k ∷ []; other = []; store = [] }) may.orderly has
        (record {
          locus = at;
          others = (there, tt);
          first = λ m is. ap (λ (e : Cell). e.clock.entity) (sym (same_only k m is)) ∙ zero_at;
          apart = λ e is. absurd (no_cell e is);
          planned = planned;
          numbers = these;
          store = λ y is. absurd (look_atlas y is);
        })
        may.few may.clean

    pub by_atlas : (c' k' : Cell) (e : Entry) → StepsApart c c' (k ∷ []) (k' ∷ []) [] [] i e → AdvancesBy stores s cs c c' (k ∷ []) (k' ∷ []) b b (Some (Ok (record { entry = e; instr = i })))
    by_atlas c' k' e apart =
        let high = locus_high (stores.held b) cs may.orderly d has c at i r planned in
        let numbers = apart.numbers in
        let pairs : ForPairs IsSameNumber (c ∷ k ∷ []) (c' ∷ k' ∷ []) = (first_is _ _ _ _ numbers, (first_is _ _ _ _ (rest_is _ _ _ _ numbers), tt)) in
        let lends = lends_with cs (c ∷ k ∷ []) (c' ∷ k' ∷ []) (((λ same. absurd (omega (arith, high, same, zero_at))), tt), (tt, tt)) pairs (at, (there, tt)) in
        quiet_by c' (k ∷ []) (k' ∷ []) e these pairs look_atlas
        (quiet_atlas (stores.held b) cs may.orderly may.few d has c at i r planned k c' k' i e (with_cells cs (c ∷ k ∷ []) (c' ∷ k' ∷ [])) zero_at apart lends)

  -- WITH BOTH
  module _ (k o : Cell) (at_k : slice_get cs k.clock.entity ≡ Some k) (at_o : slice_get cs o.clock.entity ≡ Some o) (these : numbers_of (k ∷ o ∷ []) ≡ touched_by (atlas_state d) r) where
    apart_both : (k.clock.entity ≡ 0) × (o.clock.entity ≢ 0) × (c.clock.entity ≢ o.clock.entity)
    apart_both = two_apart (stores.held b) cs may.orderly d has c at i k o at_k at_o r planned these

    look_both : (y : ℕ) → r ≢ reach.Look y
    look_both = two_no_look (stores.held b) cs may.orderly d has c at i k o r these

    pub may_both : MayStep stores s (record { locus = c; atlas = k ∷ []; other = o ∷ []; store = [] })
    may_both = may_step stores s cs d b i r (record { locus = c; atlas = k ∷ []; other = o ∷ []; store = [] }) may.orderly has
        (record {
          locus = at;
          others = (at_k, (at_o, tt));
          first = λ m is. ap (λ (e : Cell). e.clock.entity) (sym (same_only k m is)) ∙ apart_both.0;
          apart = λ e is. subst (λ (e : Cell). e.clock.entity ≢ 0) (same_only o e is) apart_both.1;
          planned = planned;
          numbers = these;
          store = λ y is. absurd (look_both y is);
        })
        may.few may.clean

    pub by_both : (c' k' o' : Cell) (e : Entry) → StepsApart c c' (k ∷ []) (k' ∷ []) (o ∷ []) (o' ∷ []) i e
        → AdvancesBy stores s cs c c' (k ∷ o ∷ []) (k' ∷ o' ∷ []) b b (Some (Ok (record { entry = e; instr = i })))
    by_both c' k' o' e apart =
        let high = locus_high (stores.held b) cs may.orderly d has c at i r planned in
        let f = apart_both in
        let zero_at = f.0 in
        let numbers = apart.numbers in
        let pairs : ForPairs IsSameNumber (c ∷ k ∷ o ∷ []) (c' ∷ k' ∷ o' ∷ []) =
        (first_is _ _ _ _ numbers, (first_is _ _ _ _ (rest_is _ _ _ _ numbers), (first_is _ _ _ _ (rest_is _ _ _ _ (rest_is _ _ _ _ numbers)), tt))) in
        let lends = lends_with cs (c ∷ k ∷ o ∷ []) (c' ∷ k' ∷ o' ∷ [])
        (((λ same. absurd (omega (arith, high, same, zero_at))), (f.2, tt)), (((λ same. f.1 (sym same ∙ zero_at)), tt), (tt, tt))) pairs (at, (at_k, (at_o, tt))) in
        quiet_by c' (k ∷ o ∷ []) (k' ∷ o' ∷ []) e these pairs look_both
        (quiet_both (stores.held b) cs may.orderly may.few d has c at i e (with_cells cs (c ∷ k ∷ o ∷ []) (c' ∷ k' ∷ o' ∷ [])) k o c' k' o' apart lends zero_at r planned these)

  -- WITH ANOTHER ENTITY, and the store
  module _ (o : Cell) (there : slice_get cs o.clock.entity ≡ Some o) (no_atlas : o.clock.entity ≢ 0) (these : numbers_of (o ∷ []) ≡ touched_by (atlas_state d) r) where
    pub may_other : MayStep stores s (record { locus = c; atlas = []; other = o ∷ []; store = b ∷ [] })
    may_other = may_step stores s cs d b i r (record { locus = c; atlas = []; other = o ∷ []; store = b ∷ [] }) may.orderly has
        (record {
          locus = at;
          others = (there, tt);
          first = λ m is. absurd (no_cell m is);
          apart = λ e is. subst (λ (e : Cell). e.clock.entity ≢ 0) (same_only o e is) no_atlas;
          planned = planned;
          numbers = these;
          store = λ y is. refl;
        })
        may.few may.clean

    apart_other : c.clock.entity ≢ o.clock.entity
    apart_other = one_apart (stores.held b) cs may.orderly d has c at i o there r planned these

    module _ (c' o' : Cell) (numbers : numbers_of (c' ∷ o' ∷ []) ≡ numbers_of (c ∷ o ∷ [])) where
      pairs_other : ForPairs IsSameNumber (c ∷ o ∷ []) (c' ∷ o' ∷ [])
      pairs_other = (first_is _ _ _ _ numbers, (first_is _ _ _ _ (rest_is _ _ _ _ numbers), tt))

      abbrev after : List Cell
      after = with_cells cs (c ∷ o ∷ []) (c' ∷ o' ∷ [])

      lends_other : Lends cs (with_cells cs (c ∷ o ∷ []) (c' ∷ o' ∷ [])) (c ∷ o ∷ []) (c' ∷ o' ∷ [])
      lends_other = lends_with cs (c ∷ o ∷ []) (c' ∷ o' ∷ []) ((apart_other, tt), (tt, tt)) pairs_other (at, (there, tt))

      pub by_beside : ((y : ℕ) → r ≢ reach.Look y) → (e : Entry) → StepsApart c c' [] [] (o ∷ []) (o' ∷ []) i e → AdvancesBy stores s cs c c' (o ∷ []) (o' ∷ []) b b (Some (Ok (record { entry = e; instr = i })))
      by_beside look e apart =
          quiet_by c' (o ∷ []) (o' ∷ []) e these pairs_other look
          (quiet_other (stores.held b) cs may.orderly may.few d has c at i e after o c' o' apart lends_other no_atlas r planned look these)

      abbrev Wants : Result Made StepFault → Type 0
      Wants came = (n : NoBlocks) → IsErrOf came (Paging (page.NoBlocks n)) ↔ IsLookShortOver stores c o b n

      module _ (y : ℕ) (look : r ≡ reach.Look y) (b' : B) where
        pub by_look : (came : Result Made StepFault) → IfOk came (λ made. LooksAt stores s c o c' o' b b' made.entry) → IfOk came (λ made. made.instr ≡ i)
            → IfErr came (λ why. (f : PageFault) × (why ≡ Paging f) × FaultsAt stores s c o c' o' b b' f) → Wants came → AdvancesBy stores s cs c c' (o ∷ []) (o' ∷ []) b b' (Some came)
        by_look (Ok m) looks instr faults wants =
            let here = first_is _ _ _ _ (these ∙ ap (touched_by (atlas_state d)) look) in
            let p = subst (IsPlanned c i) look planned in
            let same : (l : Locus) → c.part ≡ part.Locus (Some l) → m.instr ≡ instr_at (locus_of l) = λ l is. instr ∙ instr_here c i r planned l is in
            fit_by stores stays s cs b may c at d has i r planned c' (o ∷ []) (o' ∷ []) b' (Ok m) these pairs_other
            (look_advanced stores stays s cs b may c at d has i r planned o c' o' there these b' after lends_other m looks same wants)
            (these_touched stores stays s cs b may c at d has i r planned (numbers_of (o ∷ [])) m these same (only_look c o c' o' apart_other m.entry looks.somehow i y p here))
        by_look (Err why) looks instr faults wants =
            let f = faults.0 in
            subst (λ (w : StepFault). AdvancesBy stores s cs c c' (o ∷ []) (o' ∷ []) b b' (Some (Err w))) (sym faults.1)
            (fit_by stores stays s cs b may c at d has i r planned c' (o ∷ []) (o' ∷ []) b' (Err (Paging f)) these pairs_other
            (fault_advanced stores stays s cs b may c at d has i r planned o c' o' there these b' after lends_other f faults.2 (subst (λ (w : StepFault). Wants (Err w)) faults.1 wants))
            tt)
