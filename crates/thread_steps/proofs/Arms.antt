-- What the arms of a step over lent cells share.
use Rattle.std.proofs.Common.{◌≡◌, ℕ, List, [], ◌∷◌, ◌++◌, Option, Some, None, refl, sym, ap, subst, ◌∙◌}
use Rattle.std.specs.Prelude.{Result, Ok, Err, IfErr, IfOk, IsErrOf, ◌↔◌, ◌⊎◌}
use Rattle.std.proofs.Common.{inl, inr}
use Rattle.std.specs.Borrow.{MutBor}
use Rattle.base_types.specs.declared.instructions.Instr.{Instr}
use Rattle.page_store.specs.declared.faults.PageFault.{PageFault}
use Rattle.page_store.specs.declared.faults.PageFault.TheVariants as fault
use Rattle.page_store.specs.declared.store.PageStore.{Ghosts}
use Rattle.page_store.specs.model_kernel.Refusals.{instr_at}
use Rattle.page_store.specs.model_kernel.State.{Supply}
use Rattle.table_laws.specs.edge_disk.declared.disk.NoBlocks.{NoBlocks}
use Rattle.table_laws.specs.act_alone.Loci.{locus_of}
use Rattle.table_laws.specs.act_alone.declared.loci.Locus.{Locus}
use Rattle.table_laws.specs.cell_states.declared.cells.Cell.{Cell}
use Rattle.table_laws.specs.cell_states.declared.cells.Part.TheVariants as part
use Rattle.table_laws.specs.cell_states.Cells.{part_of}
use Rattle.table_laws.specs.cell_plans.Plans.{IsPlanned, idle_of}
use Rattle.table_laws.specs.cell_plans.declared.idle.Idle.{Idle}
use Rattle.table_laws.specs.cell_plans.declared.plans.Reach.{Reach}
use Rattle.table_laws.specs.cell_plans.declared.plans.Reach.TheVariants as reach
use Rattle.table_laws.proofs.cell_plans_lemmas.Once.{planned_goes, planned_once}
use Rattle.table_laws.proofs.Facing.{no_supply, no_words}
use Rattle.table_laws.specs.Tables.{AreFewWrites}
use Rattle.table_steps.specs.declared.stepping.Made.{Made}
use Rattle.table_steps.specs.declared.stepping.StepFault.{StepFault}
use Rattle.table_steps.specs.declared.stepping.StepFault.TheVariants.{Idle as IdleFor, Paging}
use Rattle.thread_history.specs.Given.{came}
use Rattle.thread_steps.specs.Lending.{AreLent, GivesStore, HoldsPages, Lent, MayStep, lent_as}
use Rattle.thread_steps.specs.Stepping.{IsLentShort, IsShortLooking}
use Rattle.thread_steps.proofs.Facing.{look_lent, same_locus}

no_cells : (k : Cell) (ks : List Cell) → k ∷ ks ≡ [] → ⊥
no_cells k ks e = cc

-- an option is none or some
pub none_or_some : {A : Type 0} (o : Option A) → (o ≡ None) ⊎ ((x : A) × (o ≡ Some x))
none_or_some None = inl refl
none_or_some (Some x) = inr (x, refl)

-- the instruction of a plan is the locus's next
pub instr_here : (c : Cell) (i : Instr) (r : Reach) → IsPlanned c i r → (l : Locus) → c.part ≡ part.Locus (Some l) → i ≡ instr_at (locus_of l)
instr_here c i r p l is = p.instr ∙ ap (λ (l : Locus). instr_at (locus_of l)) (same_locus p.locus l (sym p.runs.is ∙ is))

-- WHERE THE ATLAS IS LENT, or nothing, the step is no look
pub no_look_atlas : (c k : Cell) (ks other : List Cell) → AreLent c (k ∷ ks) other → (i : Instr) (y : ℕ) → IsPlanned c i (reach.Look y) → ⊥
no_look_atlas c k ks other lent i y p = no_cells k ks (look_lent c (k ∷ ks) other lent i y p).1

pub no_look_alone : (c : Cell) → AreLent c [] [] → (i : Instr) (y : ℕ) → IsPlanned c i (reach.Look y) → ⊥
no_look_alone c lent i y p = let f = look_lent c [] [] lent i y p in no_cells f.0 [] (sym f.2)

-- nor where its plan is another one
pub no_look_planned : (c : Cell) (i : Instr) (r : Reach) → IsPlanned c i r → ((x : ℕ) → r ≡ reach.Look x → ⊥) → (j : Instr) (y : ℕ) → IsPlanned c j (reach.Look y) → ⊥
no_look_planned c i r p other j y look = other y (planned_once c i j r y p look)

module _ {B : Type 0} (stores : Ghosts B) where
  -- what is short of a block is a look
  short_planned : (c : Cell) (ds : List Cell) (bs : List B) (n : NoBlocks) → IsShortLooking stores c ds bs n → (i : Instr) × (y : ℕ) × IsPlanned c i (reach.Look y)
  short_planned c (d ∷ []) (b ∷ []) n short = (short.instr, d.clock.entity, short.planned)
  short_planned c [] bs n short = absurd short
  short_planned c (d ∷ e ∷ ds) bs n short = absurd short
  short_planned c (d ∷ []) [] n short = absurd short
  short_planned c (d ∷ []) (b ∷ a ∷ bs) n short = absurd short

  pub never_short : (m : Made) (x : Lent B) → ((i : Instr) (y : ℕ) → IsPlanned x.locus i (reach.Look y) → ⊥) → (n : NoBlocks) → IsErrOf {T = Made} {E = StepFault} (Ok m) (Paging (fault.NoBlocks n)) ↔ IsLentShort stores x n
  never_short m x none n = (λ err. absurd (cc err), λ short. let f = short_planned x.locus x.other x.store n short in absurd (none f.0 f.1 f.2))

  pub idle_short : (why : Idle) (x : Lent B) → ((s : Supply) (words : ℕ → List ℕ) → idle_of x.locus.left (part_of s words x.locus.part) ≡ Some why) → (n : NoBlocks)
      → IsErrOf {T = Made} {E = StepFault} (Err (IdleFor why)) (Paging (fault.NoBlocks n)) ↔ IsLentShort stores x n
  idle_short why x idle n = (
    λ err. absurd (cc err),
    λ short.
        let f = short_planned x.locus x.other x.store n short in
        let clash : None ≡ Some why = sym (planned_goes x.locus f.0 (reach.Look f.1) f.2 no_supply no_words) ∙ idle no_supply no_words in absurd (cc clash),
  )

  -- WHAT IS LENT, once it is known which options are some
  module _ (s : Supply) (c : Cell) (atlas other : Option (MutBor Cell)) (store : Option (MutBor B)) (may : MayStep stores s (lent_as c atlas other store)) (ks ds : List Cell) (at : came atlas ≡ ks) (is : came other ≡ ds) where
    pub lent_with : AreLent c ks ds
    lent_with = subst (AreLent c ks) is (subst (λ ks. AreLent c ks (came other)) at may.lent)

    pub few_with : AreFewWrites (c ∷ ks ++ ds)
    few_with = subst (λ ds. AreFewWrites (c ∷ ks ++ ds)) is (subst (λ ks. AreFewWrites (c ∷ ks ++ came other)) at may.few)

    pub holds_with : (d : Cell) (b : B) → ds ≡ d ∷ [] → came store ≡ b ∷ [] → (i : Instr) (y : ℕ) → IsPlanned c i (reach.Look y) → HoldsPages stores s b d.part
    holds_with d b one given i y p = subst (GivesStore stores s (d ∷ [])) given (subst (λ es. GivesStore stores s es (came store)) (is ∙ one) (may.given i y p))

-- A LOOK'S ANSWER is the step's, or a fault of paging

err_is : (x y : StepFault) → IsErrOf {T = Made} (Err x) y → x ≡ y
err_is x y e = cc

same_paging : (a b : PageFault) → Paging a ≡ Paging b → a ≡ b
same_paging a b e = cc

pub paged_so : (r : Result Made StepFault) (P : PageFault → Type 0) → IfErr r (λ why. (f : PageFault) × (why ≡ Paging f) × P f) → (f : PageFault) → IsErrOf r (Paging f) → P f
paged_so (Ok m) P h f e = absurd (cc e)
paged_so (Err x) P h f e = subst P (same_paging h.0 f (sym h.1 ∙ err_is x (Paging f) e)) h.2

pub ok_both : (r : Result Made StepFault) (P Q R : Made → Type 0) → ((m : Made) → P m → Q m → R m) → IfOk r P → IfOk r Q → IfOk r R
ok_both (Ok m) P Q R join p q = join m p q
ok_both (Err x) P Q R join p q = tt
