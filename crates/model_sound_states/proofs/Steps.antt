-- The new cells of a step: one walk over the acts on another entity.
use Rattle.std.proofs.Common.{◌≡◌, ℕ, ◌/◌, ◌<◌, ap, sym, ◌∙◌, Bool, true, false, ◌==◌, if◌then◌else◌, List, Option, Some, None, refl, subst, arith, eqb-true}
use Rattle.model_sound_runs.specs.model_kernel.State.{Supply, AtlasState, ContainerState, LocusState, Cell, KernelState}
use Rattle.model_sound_runs.specs.model_kernel.Acts.{Act, wanted}
use Rattle.model_sound_runs.specs.model_kernel.Outcomes.{by_refused, outcome, supplied, with_word}
use Rattle.model_sound_runs.specs.model_kernel.Changes.{Access}
use Rattle.model_sound_runs.specs.model_kernel.Steps.{accesses_of, outcome_in, seen_atlas, seen_other, with_atlas_access, with_newborn_access, with_other_access}
use Rattle.model_sound_runs.proofs.Acting.{HoldsBorn, IsKept, newborn_holds, refused_kept}
use Rattle.model_sound_states.specs.States.{IsSupplied}
use Rattle.model_sound_states.proofs.Cells.{AreGood, IsGoodCell, IsGoodNew}

module _ (s : Supply) where
  -- A GOOD CELL STAYS GOOD

  good_kept : IsKept (IsGoodCell s)
  good_kept = record { contained = contained; stored = stored; located = λ l m good. tt }
    where
      contained : (c d : ContainerState) → d.pages ≡ c.pages → d.tag ≡ c.tag → d.words ≡ c.words → IsSupplied s c → IsSupplied s d
      contained c d pages tag words good at past = ap (λ (f : ℕ → ℕ). f at) words ∙ good at (omega (arith, pages, past)) ∙ ap (λ (t : ℕ). supplied s t at) (sym tag)

      -- a word is stored on a page of the container
      stored : (c : ContainerState) (address word : ℕ) → address / 128 < c.pages → IsSupplied s c → IsSupplied s (with_word c address word)
      stored c address word page good at past =
          elim (at == address) as (λ b. (at == address) ≡ b → (if b then word else c.words at) ≡ supplied s c.tag at) [
            | true ↦ λ is. (let same = eqb-true _ _ is in absurd (omega (arith, same, page, past)))
            | false ↦ λ _. good at past
          ] refl

  -- WHAT IS BORN

  born_good : (l : LocusState) (a : AtlasState) → HoldsBorn s l a (λ b. IsGoodCell s b.1)
  born_good l a = record { container = λ d pages tag entry n free address past. refl; locus = λ d place n free. tt }

  -- ALL NEW CELLS

  newborn_accesses : (newborn : Option (ℕ × Cell)) (rest : List Access) → ((b : ℕ × Cell) → newborn ≡ Some b → IsGoodCell s b.1) → AreGood s rest → AreGood s (with_newborn_access newborn rest)
  newborn_accesses None rest h all = all
  newborn_accesses (Some b) rest h all = (h b refl, all)

  atlas_accesses : (t : Bool) (a : AtlasState) (rest : List Access) → AreGood s rest → AreGood s (with_atlas_access t a rest)
  atlas_accesses true a rest all = (tt, all)
  atlas_accesses false a rest all = all

  other_accesses : (other : Option ℕ) (new : Option Cell) (rest : List Access) → ((x : ℕ) → other ≡ Some x → IsGoodNew s new) → AreGood s rest → AreGood s (with_other_access other new rest)
  other_accesses None new rest h all = all
  other_accesses (Some x) new rest h all = (h x refl, all)

  other_good : (l : LocusState) (act : Act) (w : KernelState) (x : ℕ) → act.other ≡ Some x → IsGoodCell s (w x).cell → IsGoodNew s (outcome_in s l act w).other
  unfolding outcome
  other_good l act w x is good =
      subst (λ (o : Option ℕ). IsGoodNew s (by_refused s l (seen_atlas w act.atlas) act.instr act.refused o (seen_other w o)).other) (sym is) (refused_kept s (IsGoodCell s) good_kept l (seen_atlas w act.atlas) act.instr act.refused x (w x).cell good)

  pub step_good : (me : ℕ) (l : LocusState) (w : KernelState) → ((x : ℕ) → (wanted me l).other ≡ Some x → IsGoodCell s (w x).cell) → AreGood s (accesses_of me (wanted me l) (outcome_in s l (wanted me l) w))
  step_good me l w good =
      let act = wanted me l in
      let o = outcome_in s l act w in
      atlas_accesses act.atlas o.atlas _ (other_accesses act.other o.other _ (λ x is. other_good l act w x is (good x is))
      (newborn_accesses o.newborn _ (newborn_holds s me l (seen_atlas w act.atlas) (seen_other w act.other) (λ b. IsGoodCell s b.1) (born_good l (seen_atlas w act.atlas))) (tt, tt)))
