-- A manager's program as it runs: each act is one of its seven instructions, and what has halted stays.
use Rattle.std.proofs.Common.{◌≡◌, ◌⊎◌, inl, inr, ◌==◌, get_or, ℕ, suc, zero, ◌+◌, ◌-◌, ◌<◌, ◌≤◌, true, false, if◌then◌else◌, List, [], length, Some, None, slice_get, unwrap_or, IsTrue, All, refl, sym, ap, ◌∙◌, subst, arith}
use Rattle.std.proofs.lemmas.Option.{slice_get_cases}
use Rattle.std.proofs.lemmas.List.Elements.{All-get_or}
use Rattle.base_types.specs.declared.instructions.Condition.{Condition}
use Rattle.base_types.specs.declared.instructions.Condition.TheVariants.{Running, Stopped, Halted}
use Rattle.base_types.specs.declared.instructions.Instr.{Instr}
use Rattle.base_types.specs.declared.instructions.Instr.TheVariants.{Set, Copy, Add, Sub, Jump, Jz, Halt}
use Rattle.act_alone.specs.model_kernel.State.{Supply, AtlasState, LocusState, Cell, NotBorn}
use Rattle.act_alone.specs.model_kernel.Acts.{alone, allowed, act_by, wanted}
use Rattle.act_alone.specs.model_kernel.Outcomes.{Outcome, local_act, next, with_newborn, outcome}
use Rattle.act_alone.specs.model_kernel.Refusals.{instr_at, reg, refusal}
use Rattle.act_alone.specs.model_act_facts.Loci.{IsAlone}
use Rattle.base_managers.specs.Managing.{is_managing}
use Rattle.act_alone.specs.model_acts.Views.{IsReadyLocus}
use Rattle.act_managers.specs.Answering.{act, after_acts, beginning, goes}

-- what has halted makes no act
pub stays : (n : ℕ) (l : LocusState) → goes l.condition ≡ false → after_acts n l ≡ l
unfolding after_acts
stays zero l halted = refl
stays (suc n) l halted = rw halted refl

-- one act, then the others
pub one_more : (n m : ℕ) (l : LocusState) → n ≡ suc m → goes l.condition ≡ true → after_acts n l ≡ after_acts m (act l)
unfolding after_acts
one_more zero m l e going = cc
one_more (suc n) m l e going = let same : n ≡ m = omega arith in rw going (ap (λ k. after_acts k (act l)) same)

pub none_left : (n : ℕ) (l : LocusState) → n ≡ 0 → after_acts n l ≡ l
unfolding after_acts
none_left zero l e = refl
none_left (suc n) l e = cc

-- the instruction of a manager's code at any place is a manager's
pub managed : (l : LocusState) → All (λ i. IsTrue (is_managing i)) l.code → is_managing (instr_at l) ≡ true
managed l each = by (slice_get_cases l.code l.place).1
  where
    by : ((x : Instr) × (l.place < length l.code) × (slice_get l.code l.place ≡ Some x) × (get_or l.code l.place x ≡ x)) ⊎ ((length l.code ≤ l.place) × (slice_get l.code l.place ≡ None))
        → is_managing (instr_at l) ≡ true
    by (inl found) =
        let at : IsTrue (is_managing (get_or l.code l.place found.0)) = All-get_or (λ i. IsTrue (is_managing i)) l.code l.place found.0 found.1 each in
        ap (λ o. is_managing (unwrap_or o Halt)) found.2 ∙ subst (λ i. is_managing i ≡ true) found.3 at
    by (inr past) = ap (λ o. is_managing (unwrap_or o Halt)) past.1

-- a manager's instruction is never refused
allowed_act : (l : LocusState) (i : Instr) → is_managing i ≡ true → refusal l i ≡ None
unfolding refusal
allowed_act l (Set d n) is = refl
allowed_act l (Copy d s) is = refl
allowed_act l (Add d s) is = refl
allowed_act l (Sub d s) is = refl
allowed_act l (Jump p) is = refl
allowed_act l (Jz s p) is = refl
allowed_act l Halt is = refl
allowed_act l i is = cc

-- it touches the locus alone
allowed_alone : (me : ℕ) (l : LocusState) (i : Instr) → is_managing i ≡ true → allowed me l i ≡ alone i None
unfolding allowed
allowed_alone me l (Set d n) is = refl
allowed_alone me l (Copy d s) is = refl
allowed_alone me l (Add d s) is = refl
allowed_alone me l (Sub d s) is = refl
allowed_alone me l (Jump p) is = refl
allowed_alone me l (Jz s p) is = refl
allowed_alone me l Halt is = refl
allowed_alone me l i is = cc

wanted_alone : (me : ℕ) (l : LocusState) → is_managing (instr_at l) ≡ true → wanted me l ≡ alone (instr_at l) None
unfolding wanted
wanted_alone me l is = ap (act_by me l (instr_at l)) (allowed_act l (instr_at l) is) ∙ allowed_alone me l (instr_at l) is

pub is_alone : (me : ℕ) (l : LocusState) → is_managing (instr_at l) ≡ true → IsAlone (wanted me l)
is_alone me l is = rw (wanted_alone me l is) record { atlas = refl; other = refl; newborn = refl }

same_act : (s : Supply) (l : LocusState) (a : AtlasState) (cell : Cell) (i : Instr) → is_managing i ≡ true → outcome s l (alone i None) a cell ≡ local_act l i
unfolding outcome with_newborn
same_act s l a cell (Set d n) is = refl
same_act s l a cell (Copy d r) is = refl
same_act s l a cell (Add d r) is = refl
same_act s l a cell (Sub d r) is = refl
same_act s l a cell (Jump p) is = refl
same_act s l a cell (Jz r p) is = refl
same_act s l a cell Halt is = refl
same_act s l a cell i is = cc

-- its outcome is that of the locus alone
pub outcome_is : (s : Supply) (me : ℕ) (l : LocusState) (a : AtlasState) (cell : Cell) → is_managing (instr_at l) ≡ true
    → (outcome s l (wanted me l) a cell).locus ≡ act l
outcome_is s me l a cell is = ap (λ x. (outcome s l x a cell).locus) (wanted_alone me l is) ∙ ap (λ (o : Outcome). o.locus) (same_act s l a cell (instr_at l) is)

code_of : (l : LocusState) (i : Instr) → is_managing i ≡ true → (local_act l i).locus.code ≡ l.code
unfolding local_act
code_of l (Set d n) is = refl
code_of l (Copy d r) is = refl
code_of l (Add d r) is = refl
code_of l (Sub d r) is = refl
code_of l (Jump p) is = refl
code_of l (Jz r p) is = elim (reg l r == 0) as (λ b. (if b then record l { place = p } else next l).code ≡ l.code) [ true ↦ refl | false ↦ refl ]
code_of l Halt is = refl
code_of l i is = cc

-- the code stays
pub code_stays : (l : LocusState) → is_managing (instr_at l) ≡ true → (act l).code ≡ l.code
code_stays l is = code_of l (instr_at l) is

-- what isn't running makes no act
pub not_going : (k : Condition) → (k ≡ Running → ⊥) → goes k ≡ false
not_going Running h = absurd (h refl)
not_going Stopped h = refl
not_going Halted h = refl

-- as a run stands after some acts: those to come make of it what all acts make of the beginning
pub record RunsOn (program : List Instr) (start : List ℕ) (l : LocusState) (made : ℕ) : Type 0 where
  pub ready : IsReadyLocus l
  pub code : l.code ≡ program
  pub goes_on : after_acts (1000 - made) l ≡ after_acts 1000 (beginning program start)

module _ (program : List Instr) (start : List ℕ) (managing : All (λ i. IsTrue (is_managing i)) program) where
  -- the next instruction is a manager's
  pub manages_next : (l : LocusState) (made : ℕ) → RunsOn program start l made → is_managing (instr_at l) ≡ true
  manages_next l made runs = managed l (subst (All (λ i. IsTrue (is_managing i))) (sym runs.code) managing)

  pub goes_further : (l m : LocusState) (made : ℕ) → made < 1000 → RunsOn program start l made → l.condition ≡ Running
      → IsReadyLocus m
      → ((me : ℕ) (s : Supply) (a : AtlasState) (cell : Cell) → m ≡ (outcome s l (wanted me l) a cell).locus) → RunsOn program start m (made + 1)
  goes_further l m made few runs running ready by_act =
      let no_words : Supply = λ _ _ _. 0 in
      let no_names : AtlasState = record { containers = []; loci = []; edges = λ _ _. 0 } in
      let same : m ≡ act l = by_act 64 no_words no_names NotBorn ∙ outcome_is no_words 64 l no_names NotBorn (manages_next l made runs) in
      record {
        ready = ready;
        code = ap (λ (x : LocusState). x.code) same ∙ code_stays l (manages_next l made runs) ∙ runs.code;
        goes_on = ap (after_acts (1000 - (made + 1))) same
            ∙ sym (one_more (1000 - made) (1000 - (made + 1)) l (omega arith) (ap goes running)) ∙ runs.goes_on;
      }

  -- a run that has halted, or has made all acts, is at its end
  pub at_end : (l : LocusState) (made : ℕ) → RunsOn program start l made → (1000 ≤ made) ⊎ (goes l.condition ≡ false)
      → l ≡ after_acts 1000 (beginning program start)
  at_end l made runs (inl all) = sym (none_left (1000 - made) l (omega arith)) ∙ runs.goes_on
  at_end l made runs (inr halted) = sym (stays (1000 - made) l halted) ∙ runs.goes_on
