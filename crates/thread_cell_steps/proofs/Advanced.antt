-- What a step by lent cells says of the table.
use Rattle.std.proofs.Common.{◌≡◌, ◌≢◌, inl, ℕ, true, List, [], ◌∷◌, slice_get, Some, None, Ok, Err, refl, sym, ap, subst, ◌∙◌, arith}
use Rattle.std.specs.Prelude.{◌↔◌, IfOk, IsErrOf, Result}
use Rattle.std.proofs.lemmas.Option.{same_Some}
use Rattle.base_types.specs.declared.histories.Entry.{Entry}
use Rattle.base_types.specs.declared.instructions.Instr.{Instr}
use Rattle.page_store.specs.declared.faults.PageFault.{PageFault}
use Rattle.page_store.specs.declared.faults.PageFault.TheVariants as page
use Rattle.page_store.specs.declared.store.PageStore.{Ghosts}
use Rattle.page_store.specs.model_kernel.Histories.{locus_in, writes}
use Rattle.page_store.specs.model_kernel.Refusals.{instr_at}
use Rattle.page_store.specs.model_kernel.State.{Supply}
use Rattle.table_laws.specs.edge_disk.declared.disk.NoBlocks.{NoBlocks}
use Rattle.table_laws.specs.data_atlas_facts.Directory.{Directory}
use Rattle.table_laws.specs.act_alone.Loci.{locus_of}
use Rattle.table_laws.specs.act_alone.declared.loci.Locus.{Locus}
use Rattle.table_laws.specs.act_calls.Calls.{atlas_state}
use Rattle.table_laws.specs.cell_states.declared.cells.Cell.{Cell}
use Rattle.table_laws.specs.cell_states.declared.cells.Part.TheVariants as part
use Rattle.table_laws.specs.cell_states.Cells.{part_of}
use Rattle.table_laws.specs.cell_plans.Plans.{IsPlanned, idle_of}
use Rattle.table_laws.specs.cell_plans.declared.idle.Idle.{Idle}
use Rattle.table_laws.specs.cell_plans.declared.plans.Reach.{Reach}
use Rattle.table_laws.specs.cell_plans.declared.plans.Reach.TheVariants as reach
use Rattle.table_laws.specs.Lending.{ForPairs, IsSameNumber, Lends, StandIn}
use Rattle.table_laws.specs.Steps.{HasDirectory, StepsQuietly}
use Rattle.table_laws.specs.Tables.{entity_in, left_of, state_in}
use Rattle.table_laws.proofs.cell_plans_lemmas.Once.{planned_goes}
use Rattle.table_laws.proofs.Facing.{no_supply, no_words}
use Rattle.table_steps.specs.Wanting.{HasNext, IsStepShortIn}
use Rattle.table_steps.specs.declared.stepping.Made.{Made}
use Rattle.table_steps.specs.declared.stepping.StepFault.{StepFault}
use Rattle.table_steps.specs.declared.stepping.StepFault.TheVariants.{Idle as IdleFor, Paging}
use Rattle.table_steps.proofs.FacingLook.{wants_word}
use Rattle.table_steps.proofs.Short.{idle_short, short_reach, turns_one}
use Rattle.thread_history.specs.Rules.{is_among}
use Rattle.thread_steps.specs.Lending.{numbers_of, touched_by}
use Rattle.thread_steps.specs.Stepping.{FaultsAt, IsLookShortOver, LooksAt}
use Rattle.thread_steps.proofs.Numbers.{first_is}
use Rattle.thread_cell_steps.specs.Advancing.{AdvancesBy, HasAdvanced, MayAdvance, TouchesThese, WantsOthers, with_cells}
use Rattle.thread_cell_steps.proofs.Touching.{wants_these}
use Rattle.thread_cell_steps.proofs.Looking.{look_failed, look_made, two}
use Rattle.thread_cell_steps.proofs.Returning.{same_numbers, with_same}

none_some : (why : Idle) → None ≡ Some why → ⊥
none_some why e = cc

idle_is : (why w : Idle) → IsErrOf {T = Made} {E = StepFault} (Err (IdleFor why)) (IdleFor w) → why ≡ w
idle_is why w e = cc

abbrev err_of : StepFault → Result Made StepFault
err_of f = Err f

idle_err : (why w : Idle) → why ≡ w → IsErrOf {T = Made} {E = StepFault} (Err (IdleFor why)) (IdleFor w)
idle_err why w e = ap (λ (k : Idle). err_of (IdleFor k)) e

paging_is : (f q : PageFault) → IsErrOf {T = Made} {E = StepFault} (Err (Paging f)) (Paging q) → f ≡ q
paging_is f q e = cc

module _ {B : Type 0} (stores : Ghosts B) (stays : (b : B) → stores.Pages b b) (s : Supply) (cs : List Cell) (b : B) (may : MayAdvance stores s cs b)
    (c : Cell) (at : slice_get cs c.clock.entity ≡ Some c) where
  -- WHERE OTHERS ARE WANTED
  pub unfit_by : (old : List Cell) → WantsOthers cs c.clock.entity (numbers_of old) → AdvancesBy stores s cs c c old old b b None
  unfit_by old others = record { numbers = same_numbers (c ∷ old); unfit = ((λ none. others), (λ w. refl)); undone = λ none. (refl, refl, refl); advanced = tt; touches = tt }

  -- AN IDLE LOCUS
  module _ (why : Idle) (idle : (z : Supply) (words : ℕ → List ℕ) → idle_of c.left (part_of z words c.part) ≡ Some why) where
    idle_here : (z : Supply) (words : ℕ → List ℕ) → idle_of (left_of (slice_get cs c.clock.entity)) (state_in z words cs c.clock.entity).cell ≡ Some why
    idle_here z words = ap (λ o. idle_of (left_of o) (entity_in z words c.clock.entity o).cell) at ∙ idle z words

    idle_advanced : HasAdvanced stores s c.clock.entity cs cs b b (Err (IdleFor why))
    idle_advanced = record {
      idle = λ z words w. ((λ is. idle_here z words ∙ ap Some (idle_is why w is)), (λ is. idle_err why w (same_Some why w (sym (idle_here z words) ∙ is))));
      still = λ w is. (refl, refl);
      step = λ told. tt;
      orderly = may.orderly;
      enters = tt;
      instr = tt;
      faulted = λ f is. absurd (cc is);
      at_word = λ f is. absurd (cc is);
      no_blocks = idle_short (stores.kept_names b) (stores.free b) c.clock.entity cs why idle_here;
      turned = λ n is. absurd (cc is);
      kept = refl;
      news = λ x at. inl refl;
      cause = λ f is. absurd (cc is);
      same_shut = tt;
      one_write = omega arith;
      between = stays b;
    }

    not_idle : (lent : List ℕ) → WantsOthers cs c.clock.entity lent → ⊥
    not_idle lent w =
        let here = same_Some w.planned.cell c (sym w.planned.is ∙ at) in
        let plan = subst (λ (k : Cell). IsPlanned k w.instr w.reach) here w.planned.plan in
        none_some why (sym (planned_goes c w.instr w.reach plan no_supply no_words) ∙ idle no_supply no_words)

    pub idle_by : (old : List Cell) → StandIn cs old → AdvancesBy stores s cs c c old old b b (Some (Err (IdleFor why)))
    idle_by old stand = record {
      numbers = same_numbers (c ∷ old);
      unfit = ((λ none. absurd (cc none)), (λ w. absurd (not_idle (numbers_of old) w)));
      undone = λ none. absurd (cc none);
      advanced = subst (λ (l : List Cell). HasAdvanced stores s c.clock.entity cs l b b (Err (IdleFor why))) (sym (with_same cs (c ∷ old) (at, stand))) idle_advanced;
      touches = tt;
    }

  -- A STEP
  module _ (d : Directory) (has : HasDirectory cs d) (i : Instr) (r : Reach) (planned : IsPlanned c i r) where
    goes_here : (z : Supply) (words : ℕ → List ℕ) → idle_of (left_of (slice_get cs c.clock.entity)) (state_in z words cs c.clock.entity).cell ≡ None
    goes_here z words = ap (λ o. idle_of (left_of o) (entity_in z words c.clock.entity o).cell) at ∙ planned_goes c i r planned z words

    pub same_instr : (j : Instr) → ((l : Locus) → c.part ≡ part.Locus (Some l) → j ≡ instr_at (locus_of l)) → j ≡ i
    same_instr j instr = instr planned.locus planned.runs.is ∙ sym planned.instr

    next_here : (j : Instr) → ((l : Locus) → c.part ≡ part.Locus (Some l) → j ≡ instr_at (locus_of l)) → HasNext c.clock.entity cs j
    next_here j instr = record {
      locus = locus_of planned.locus;
      is = λ z words. ap (λ o. locus_in (entity_in z words c.clock.entity o).cell) at ∙ ap (λ p. locus_in (part_of z words p)) planned.runs.is;
      instr = instr planned.locus planned.runs.is;
    }

    pub quiet_advanced : (cs' : List Cell) (m : Made) → StepsQuietly c.clock.entity cs cs' m.entry → ((l : Locus) → c.part ≡ part.Locus (Some l) → m.instr ≡ instr_at (locus_of l)) → ((y : ℕ) → r ≢ reach.Look y)
        → HasAdvanced stores s c.clock.entity cs cs' b b (Ok m)
    quiet_advanced cs' m quiet instr look = record {
      idle = λ z words w. ((λ is. absurd (cc is)), (λ is. absurd (none_some w (sym (goes_here z words) ∙ is))));
      still = λ w is. absurd (cc is);
      step = λ told. quiet.goes s (stores.words b);
      orderly = quiet.orderly (stores.held b) may.orderly;
      enters = quiet.enters;
      instr = next_here m.instr instr;
      faulted = λ f is. absurd (cc is);
      at_word = λ f is. absurd (cc is);
      no_blocks = λ n. (
        (λ is. absurd (cc is)),
        (λ short. absurd (look short.container (short_reach (stores.kept_names b) (stores.free b) c.clock.entity cs n short i r (record { cell = c; is = at; plan = planned })))),
      );
      turned = λ n is. absurd (cc is);
      kept = refl;
      news = λ x at. inl (quiet.blocks (stores.held b) may.orderly x at);
      cause = λ f is. absurd (cc is);
      same_shut = refl;
      one_write = omega arith;
      between = stays b;
    }

    -- A LOOK
    module _ (o c' o' : Cell) (there : slice_get cs o.clock.entity ≡ Some o) (numbers : numbers_of (o ∷ []) ≡ touched_by (atlas_state d) r) (b' : B) (cs' : List Cell) (lends : Lends cs cs' (c ∷ o ∷ []) (c' ∷ o' ∷ [])) where
      -- short of a block as the table's next step is
      short_lent : (n : NoBlocks) → IsStepShortIn stores b c.clock.entity cs n → IsLookShortOver stores c o b n
      short_lent n short =
          let same_c : short.locus ≡ c = same_Some short.locus c (sym short.at ∙ at) in
          let is = short_reach (stores.kept_names b) (stores.free b) c.clock.entity cs n short i r (record { cell = c; is = at; plan = planned }) in
          let here : o.clock.entity ≡ short.container = first_is _ _ _ _ (numbers ∙ ap (touched_by (atlas_state d)) is) in
          let same_o : short.other ≡ o = same_Some short.other o (sym short.there ∙ ap (slice_get cs) (sym here) ∙ there) in
          record {
            instr = short.instr;
            planned = subst (λ x. IsPlanned c short.instr (reach.Look x)) (sym here) (subst (λ (k : Cell). IsPlanned k short.instr (reach.Look short.container)) same_c short.planned);
            short = subst (λ (k : Cell). Rattle.table_laws.specs.cell_looks.Looking.IsLookShortIn stores b c.part k.part n) same_o
                (subst (λ (k : Cell). Rattle.table_laws.specs.cell_looks.Looking.IsLookShortIn stores b k.part short.other.part n) same_c short.short);
          }

      short_table : (n : NoBlocks) → IsLookShortOver stores c o b n → IsStepShortIn stores b c.clock.entity cs n
      short_table n short = record { locus = c; container = o.clock.entity; other = o; instr = short.instr; at = at; there = there; planned = short.planned; short = short.short }

      pub look_advanced : (m : Made) → LooksAt stores s c o c' o' b b' m.entry → ((l : Locus) → c.part ≡ part.Locus (Some l) → m.instr ≡ instr_at (locus_of l))
          → ((n : NoBlocks) → IsErrOf {T = Made} {E = StepFault} (Ok m) (Paging (page.NoBlocks n)) ↔ IsLookShortOver stores c o b n) → HasAdvanced stores s c.clock.entity cs cs' b b' (Ok m)
      look_advanced m looks instr wants =
          let left = look_made stores s cs b b' may.orderly c o c' o' at there i r planned looks.memory cs' lends m.entry looks in
          record {
            idle = λ z words w. ((λ is. absurd (cc is)), (λ is. absurd (none_some w (sym (goes_here z words) ∙ is))));
            still = λ w is. absurd (cc is);
            step = left.step;
            orderly = left.orderly;
            enters = left.enters;
            instr = next_here m.instr instr;
            faulted = λ f is. absurd (cc is);
            at_word = λ f is. absurd (cc is);
            no_blocks = λ n. ((λ is. absurd (cc is)), (λ short. (wants n).1 (short_lent n short)));
            turned = λ n is. absurd (cc is);
            kept = looks.memory.others.same_kept;
            news = left.news;
            cause = λ f is. absurd (cc is);
            same_shut = looks.pages.same_shut;
            one_write = looks.pages.one_write;
            between = looks.pages.between;
          }

      pub fault_advanced : (f : PageFault) → FaultsAt stores s c o c' o' b b' f
          → ((n : NoBlocks) → IsErrOf {T = Made} {E = StepFault} (Err (Paging f)) (Paging (page.NoBlocks n)) ↔ IsLookShortOver stores c o b n) → HasAdvanced stores s c.clock.entity cs cs' b b' (Err (Paging f))
      fault_advanced f faults wants =
          let left = look_failed stores s cs b b' may.orderly c o c' o' at there i r planned faults.memory cs' lends f faults in
          let others : (o'.clock ≡ o.clock) × (o'.wish ≡ o.wish) × (o'.left ≡ o.left) = (ap (λ (k : Cell). k.clock) faults.rest, ap (λ (k : Cell). k.wish) faults.rest, ap (λ (k : Cell). k.left) faults.rest) in
          record {
            idle = λ z words w. ((λ is. absurd (cc is)), (λ is. absurd (none_some w (sym (goes_here z words) ∙ is))));
            still = λ w is. absurd (cc is);
            step = left.step;
            orderly = left.orderly;
            enters = tt;
            instr = tt;
            faulted = λ q is. left.faulted;
            at_word = λ q is. wants_word cs c.clock.entity o.clock.entity c o at there refl refl faults.at_word;
            no_blocks = λ n. ((λ is. short_table n ((wants n).0 is)), (λ short. (wants n).1 (short_lent n short)));
            turned = λ n is.
                let same = paging_is f (page.NoBlocks n) is in (
                  turns_one cs cs' c.clock.entity o.clock.entity c o c' o' (two stores s cs b b' may.orderly c o c' o' at there i r planned faults.memory cs' lends) (Err f) faults.locus others n (page_err f n same) (faults.turned n same),
                  faults.pages.wanting n (page_err f n same),
                );
            kept = faults.memory.others.same_kept;
            news = left.news;
            cause = λ q is. subst (λ g. Rattle.table_laws.specs.page_memory.Calls.IsCausedIn stores b b' g) (paging_is f q is) faults.pages.cause;
            same_shut = tt;
            one_write = faults.pages.one_write;
            between = faults.pages.between;
          }
        where
          page_err : (f : PageFault) (n : NoBlocks) → f ≡ page.NoBlocks n → IsErrOf {T = Entry} {E = PageFault} (Err f) (page.NoBlocks n)
          page_err f n same = ap (λ (g : PageFault). Err g) same

    pub these_touched : (lent : List ℕ) (m : Made) → lent ≡ touched_by (atlas_state d) r → ((l : Locus) → c.part ≡ part.Locus (Some l) → m.instr ≡ instr_at (locus_of l))
        → ((x : ℕ) → writes m.entry x ≡ true → is_among x (c.clock.entity ∷ lent) ≡ true) → TouchesThese cs c.clock.entity lent m
    these_touched lent m these instr only = record {
      directory = d;
      has = has;
      reach = r;
      planned = record { cell = c; is = at; plan = subst (λ j. IsPlanned c j r) (sym (same_instr m.instr instr)) planned };
      these = these;
      only = only;
    }

    -- WHATEVER CAME OF IT, where these are lent
    pub fit_by : (c' : Cell) (old new : List Cell) (b' : B) (came : Result Made StepFault) → numbers_of old ≡ touched_by (atlas_state d) r → ForPairs IsSameNumber (c ∷ old) (c' ∷ new)
        → HasAdvanced stores s c.clock.entity cs (with_cells cs (c ∷ old) (c' ∷ new)) b b' came → IfOk came (TouchesThese cs c.clock.entity (numbers_of old)) → AdvancesBy stores s cs c c' old new b b' (Some came)
    fit_by c' old new b' came these pairs advanced touches = record {
      numbers = pairs;
      unfit = ((λ none. absurd (cc none)), (λ w. absurd (wants_these cs c at d has i r planned (numbers_of old) these w)));
      undone = λ none. absurd (cc none);
      advanced = advanced;
      touches = touches;
    }
