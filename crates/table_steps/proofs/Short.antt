-- Steps of the table that are short of a block.
use Rattle.std.proofs.Common.{◌≡◌, ◌≢◌, ℕ, Bool, List, slice_get, Some, None, refl, sym, ap, subst, ◌∙◌, inl, inr}
use Rattle.std.specs.Prelude.{Result, Ok, Err, IsErrOf, OnErr, ◌↔◌}
use Rattle.std.proofs.lemmas.Bool.{cases_eq}
use Rattle.std.proofs.lemmas.Option.{same_Some}
use Rattle.base_types.specs.declared.histories.Entry.{Entry}
use Rattle.base_types.specs.declared.instructions.Instr.{Instr}
use Rattle.page_store.specs.declared.faults.PageFault.{PageFault}
use Rattle.page_store.specs.declared.faults.PageFault.TheVariants as fault
use Rattle.page_store.specs.model_kernel.State.{Supply}
use Rattle.table_laws.specs.edge_disk.declared.disk.NoBlocks.{NoBlocks}
use Rattle.table_laws.specs.cell_states.declared.cells.Cell.{Cell}
use Rattle.table_laws.specs.cell_looks.Looking.{IsLookShort, TurnsPart}
use Rattle.table_laws.specs.cell_plans.Plans.{IsPlanned, idle_of}
use Rattle.table_laws.specs.cell_plans.declared.idle.Idle.{Idle}
use Rattle.table_laws.specs.cell_plans.declared.plans.Reach.{Reach}
use Rattle.table_laws.specs.cell_plans.declared.plans.Reach.TheVariants as reach
use Rattle.table_laws.proofs.cell_plans_lemmas.Once.{planned_goes, planned_once}
use Rattle.table_laws.specs.Steps.{IsPlannedAt}
use Rattle.table_laws.specs.Tables.{entity_in, left_of, state_in}
use Rattle.table_laws.proofs.Blocks.{ChangesTwo}
use Rattle.table_laws.proofs.Facing.{no_supply, no_words}
use Rattle.table_steps.specs.Wanting.{IsStepShort, TurnsOne}
use Rattle.table_steps.specs.declared.stepping.Made.{Made}
use Rattle.table_steps.specs.declared.stepping.StepFault.{StepFault}
use Rattle.table_steps.specs.declared.stepping.StepFault.TheVariants.{Idle as IdleFor, Paging}

same_look : (x y : ℕ) → reach.Look x ≡ reach.Look y → x ≡ y
same_look x y e = cc

module _ (kept : ℕ → Bool) (free me : ℕ) (cs : List Cell) (n : NoBlocks) (short : IsStepShort kept free me cs n) where
  -- the step is that look, and the locus isn't idle
  pub short_reach : (i : Instr) (r : Reach) → IsPlannedAt cs me i r → r ≡ reach.Look short.container
  short_reach i r planned =
      let same = same_Some short.locus planned.cell (sym short.at ∙ planned.is) in
      planned_once planned.cell i short.instr r short.container planned.plan (subst (λ c. IsPlanned c short.instr (reach.Look short.container)) same short.planned)

  pub short_goes : (s : Supply) (words : ℕ → List ℕ) → idle_of (left_of (slice_get cs me)) (state_in s words cs me).cell ≡ None
  short_goes s words = ap (λ o. idle_of (left_of o) (entity_in s words me o).cell) short.at ∙ planned_goes short.locus short.instr (reach.Look short.container) short.planned s words

  -- the look at the cells that are lent is the one that is short
  pub short_look : (y : ℕ) (i : Instr) (a b : Cell) → slice_get cs me ≡ Some a → slice_get cs y ≡ Some b → IsPlannedAt cs me i (reach.Look y) → IsLookShort kept free a.part b.part n
  short_look y i a b is_a is_b planned =
      let same_a : a ≡ short.locus = same_Some a short.locus (sym is_a ∙ short.at) in
      let same_y = same_look y short.container (short_reach i (reach.Look y) planned) in
      let same_b : b ≡ short.other = same_Some b short.other (sym is_b ∙ ap (slice_get cs) same_y ∙ short.there) in
      subst (λ c. IsLookShort kept free a.part c.part n) (sym same_b) (subst (λ c. IsLookShort kept free c.part short.other.part n) (sym same_a) short.short)

-- A STEP that isn't a look is never short

pub never_short : {T : Type 0} (y : T) (kept : ℕ → Bool) (free me : ℕ) (cs : List Cell) (i : Instr) (r : Reach) → IsPlannedAt cs me i r → ((x : ℕ) → r ≡ reach.Look x → ⊥) → (n : NoBlocks) → IsErrOf {T = T} {E = PageFault} (Ok y) (fault.NoBlocks n) ↔ IsStepShort kept free me cs n
never_short y kept free me cs i r planned other n = (λ none. absurd (cc none), λ short. absurd (other short.container (short_reach kept free me cs n short i r planned)))

-- WHERE NOTHING BUT THE CLOCK HAS MOVED

err_says : {T P : Type 0} (r : Result T PageFault) (f : PageFault) → IsErrOf r f → OnErr r P → P
err_says (Ok y) f none says = absurd (cc none)
err_says (Err e) f none says = says

same_but : (c d : Cell) → d.clock ≡ c.clock → d.wish ≡ c.wish → d.left ≡ c.left → d ≡ record c { part = d.part }
same_but c d clock wish left = λ i. record { clock = clock i; part = d.part; wish = wish i; left = left i }

module _ (cs cs' : List Cell) (me y : ℕ) (a b a' b' : Cell) (two : ChangesTwo cs cs' me y a b a' b') (r : Result Entry PageFault)
    (locus_stays : OnErr r (a' ≡ a)) (other_stays : OnErr r ((b'.clock ≡ b.clock) × (b'.wish ≡ b.wish) × (b'.left ≡ b.left))) where
  pub turns_one : (n : NoBlocks) → IsErrOf r (fault.NoBlocks n) → TurnsPart b.part b'.part → TurnsOne cs cs'
  turns_one n none turns =
      let locus = err_says r (fault.NoBlocks n) none locus_stays in
      let other = err_says r (fault.NoBlocks n) none other_stays in
      record {
        container = y;
        before = b;
        after = b';
        was = two.was_b;
        is = two.is_b;
        turns = turns;
        only_part = same_but b b' other.0 other.1 other.2;
        others = λ x apart. elim (cases_eq x me) [
          | inl same ↦ ap (slice_get cs') same ∙ two.is_a ∙ ap Some locus ∙ sym two.was_a ∙ ap (slice_get cs) (sym same)
          | inr far ↦ two.others x far apart
        ];
      }

-- A FAULT OF PAGING that a step hands on says what the step said

module _ (f : PageFault) where
  pub paging_short : {P : NoBlocks → Type 0} → ((n : NoBlocks) → IsErrOf {T = Entry} (Err f) (fault.NoBlocks n) ↔ P n) → (n : NoBlocks) → IsErrOf {T = Made} (Err (Paging f)) (Paging (fault.NoBlocks n)) ↔ P n
  paging_short says n = (
    λ none. (says n).0 (let same : f ≡ fault.NoBlocks n = cc in ap Err same),
    λ short. let none = (says n).1 short in let same : f ≡ fault.NoBlocks n = cc in ap (λ e. Err (Paging e)) same,
  )

  pub paging_turned : {P : Type 0} → ((n : NoBlocks) → IsErrOf {T = Entry} (Err f) (fault.NoBlocks n) → P) → (n : NoBlocks) → IsErrOf {T = Made} (Err (Paging f)) (Paging (fault.NoBlocks n)) → P
  paging_turned says n none = says n (let same : f ≡ fault.NoBlocks n = cc in ap Err same)

-- a step that was made was short of nothing
pub made_short : (e : Entry) (m : Made) {P : NoBlocks → Type 0} → ((n : NoBlocks) → IsErrOf {T = Entry} {E = PageFault} (Ok e) (fault.NoBlocks n) ↔ P n) → (n : NoBlocks) → IsErrOf {T = Made} {E = StepFault} (Ok m) (Paging (fault.NoBlocks n)) ↔ P n
made_short e m says n = (λ none. absurd (cc none), λ short. absurd (let none = (says n).1 short in cc none))

-- nor is a locus that is idle
pub idle_short : (kept : ℕ → Bool) (free me : ℕ) (cs : List Cell) (why : Idle) → ((s : Supply) (words : ℕ → List ℕ) → idle_of (left_of (slice_get cs me)) (state_in s words cs me).cell ≡ Some why)
    → (n : NoBlocks) → IsErrOf {T = Made} {E = StepFault} (Err (IdleFor why)) (Paging (fault.NoBlocks n)) ↔ IsStepShort kept free me cs n
idle_short kept free me cs why idle n = (λ none. absurd (cc none), λ short. absurd (let clash : None ≡ Some why = sym (short_goes kept free me cs n short no_supply no_words) ∙ idle no_supply no_words in cc clash))
