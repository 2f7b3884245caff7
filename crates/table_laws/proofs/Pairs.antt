-- One or two cells that were lent for a quiet step.
use Rattle.std.proofs.Common.{◌≡◌, inl, ℕ, ◌<◌, ◌≤◌, Bool, List, [], ◌∷◌, slice_get, slice_set, Some, sym, ap, ◌∙◌, subst, arith}
use Rattle.std.proofs.lemmas.Option.{slice_get_within}
use Rattle.cell_steps.specs.base_types.declared.histories.Entry.{Entry}
use Rattle.cell_steps.specs.base_types.declared.instructions.Instr.{Instr}
use Rattle.cell_steps.specs.model_kernel.State.{NotBorn, LocusState, LocusCell, Cell as ModelCell, Supply}
use Rattle.cell_steps.specs.cell_states.declared.cells.Cell.{Cell}
use Rattle.cell_steps.specs.cell_calls.Besides.{FitsBeside, KeepsMemory}
use Rattle.cell_steps.specs.act_alone.Loci.{locus_of}
use Rattle.cell_steps.specs.model_acts.declared.choice.Act.{Act}
use Rattle.cell_steps.specs.cell_plans.declared.plans.Reach.TheVariants as reach
use Rattle.cell_steps.specs.Advances.{StepsCells}
use Rattle.table_laws.specs.Lending.{Lends}
use Rattle.table_laws.specs.Steps.{IsPlannedAt, StepsQuietly}
use Rattle.table_laws.specs.Tables.{AreNumbered, HasKind, IsOrderly, state_in}
use Rattle.table_laws.proofs.Facing.{cells, fits_born, high_at, locus_at, no_supply, no_words, plan_of}
use Rattle.table_laws.proofs.PartKinds.{born_kind, high_keeps, stays_born}
use Rattle.table_laws.proofs.Places.{HasSetTwo}
use Rattle.table_laws.specs.Quiet.{GoesQuietly}
use Rattle.table_laws.proofs.Quiet.{goes_on, sound_after, steps_quietly}

-- WHO WAS LENT

pub lends_one : (cs : List Cell) (a a' : Cell) → AreNumbered cs → slice_get cs a.clock.entity ≡ Some a → a'.clock.entity ≡ a.clock.entity → Lends cs (slice_set cs a.clock.entity a') (a ∷ []) (a' ∷ [])
lends_one cs a a' numbers is same = record {
  len = Rattle.std.proofs.lemmas.List.length-set cs a.clock.entity a';
  numbers = (same, tt);
  stood = (is, tt);
  stand = (ap (slice_get (slice_set cs a.clock.entity a')) same ∙ Rattle.cell_step_laws.proofs.plain_states_lemmas.CellLemmas.slice_get-set_same cs a.clock.entity a' (slice_get_within cs a.clock.entity a is), tt);
  others = λ x apart. Rattle.cell_step_laws.proofs.plain_states_lemmas.CellLemmas.slice_get-set_other cs a.clock.entity x a' (λ e. apart.0 (sym e));
}

-- the locus has the higher number, or the lower
pub lends_high : (cs cs' : List Cell) (a b a' b' : Cell) (i j : ℕ) → HasSetTwo cs cs' i j b' a' → slice_get cs j ≡ Some a → slice_get cs i ≡ Some b → a.clock.entity ≡ j → b.clock.entity ≡ i
    → a'.clock.entity ≡ a.clock.entity → b'.clock.entity ≡ b.clock.entity → Lends cs cs' (a ∷ b ∷ []) (a' ∷ b' ∷ [])
lends_high cs cs' a b a' b' i j set is_a is_b at_a at_b same_a same_b = record {
  len = set.len;
  numbers = (same_a, (same_b, tt));
  stood = (ap (slice_get cs) at_a ∙ is_a, (ap (slice_get cs) at_b ∙ is_b, tt));
  stand = (ap (slice_get cs') (same_a ∙ at_a) ∙ set.second, (ap (slice_get cs') (same_b ∙ at_b) ∙ set.first, tt));
  others = λ x apart. set.others x (λ e. apart.1.0 (e ∙ sym at_b)) (λ e. apart.0 (e ∙ sym at_a));
}

pub lends_low : (cs cs' : List Cell) (a b a' b' : Cell) (i j : ℕ) → HasSetTwo cs cs' i j a' b' → slice_get cs i ≡ Some a → slice_get cs j ≡ Some b → a.clock.entity ≡ i → b.clock.entity ≡ j
    → a'.clock.entity ≡ a.clock.entity → b'.clock.entity ≡ b.clock.entity → Lends cs cs' (a ∷ b ∷ []) (a' ∷ b' ∷ [])
lends_low cs cs' a b a' b' i j set is_a is_b at_a at_b same_a same_b = record {
  len = set.len;
  numbers = (same_a, (same_b, tt));
  stood = (ap (slice_get cs) at_a ∙ is_a, (ap (slice_get cs) at_b ∙ is_b, tt));
  stand = (ap (slice_get cs') (same_a ∙ at_a) ∙ set.first, (ap (slice_get cs') (same_b ∙ at_b) ∙ set.second, tt));
  others = λ x apart. set.others x (λ e. apart.0 (e ∙ sym at_a)) (λ e. apart.1.0 (e ∙ sym at_b));
}

-- THE CELLS AFTER THE STEP

-- a locus that steps was born
pub locus_born : (k : ModelCell) (l : LocusState) → k ≡ LocusCell l → k ≡ NotBorn → ⊥
locus_born k l is none = cc

module _ (held : ℕ → Bool) (cs : List Cell) (orderly : IsOrderly held cs) (me : ℕ) (cs' old new : List Cell) (e : Entry) (steps : (s : Supply) (words : ℕ → List ℕ) → StepsCells s words words me old new e) (lends : Lends cs cs' old new) where
  -- what was born is of its number's kind
  pub kind_after : (x : ℕ) (d : Cell) → slice_get cs' x ≡ Some d → (cells held cs orderly x ≡ NotBorn → ⊥) → HasKind x d.part
  unfolding cells
  kind_after x d is born =
      let after = sound_after me cs cs' old new e steps lends orderly.numbers orderly.sound no_supply no_words in
      born_kind no_supply no_words after.sound.0 (λ y. (state_in no_supply no_words cs' y).cell) x d.part after.sound.1
      (sym (ap (λ o. (Rattle.table_laws.specs.Tables.entity_in no_supply no_words x o).cell) is))
      (stays_born no_supply me (state_in no_supply no_words cs) (state_in no_supply no_words cs') e x (orderly.sound no_supply no_words) after (goes_on me cs cs' old new e steps lends orderly.numbers no_supply no_words) born)

  -- and no container's part has a memory that changes
  pub apart_goes : (x : ℕ) (c d : Cell) → slice_get cs x ≡ Some c → slice_get cs' x ≡ Some d → d.clock.entity ≡ x → (cells held cs orderly x ≡ NotBorn → ⊥) → (0 < x → x ≤ 40 → ⊥) → GoesQuietly c d
  apart_goes x c d was is at born none =
      let kind = kind_after x d is born in
      record { kind = subst (λ y. HasKind y d.part) (sym at) kind; memory = inl (high_keeps x c.part d.part none (orderly.kinds x c was) kind) }

  pub kept_goes : (x : ℕ) (c d : Cell) → slice_get cs' x ≡ Some d → d.clock.entity ≡ x → (cells held cs orderly x ≡ NotBorn → ⊥) → KeepsMemory c.part d.part → GoesQuietly c d
  kept_goes x c d is at born keeps = record { kind = subst (λ y. HasKind y d.part) (sym at) (kind_after x d is born); memory = inl keeps }

-- A QUIET STEP OF THE LOCUS ALONE, or beside another
module _ (held : ℕ → Bool) (cs : List Cell) (orderly : IsOrderly held cs) (me : ℕ) where
  pub alone_quiet : (i : Instr) (own : Act) (planned : IsPlannedAt cs me i (reach.Alone own)) (a a' : Cell) (e : Entry) → slice_get cs me ≡ Some a
      → ((s : Supply) (words : ℕ → List ℕ) → StepsCells s words words a.clock.entity (a ∷ []) (a' ∷ []) e) → a'.clock.entity ≡ a.clock.entity → StepsQuietly me cs (slice_set cs me a') e
  alone_quiet i own planned a a' e is_a steps same =
      let at : a.clock.entity ≡ me = orderly.numbers.each me a is_a in
      let p = plan_of held cs orderly me i (reach.Alone own) planned a is_a in
      let lends : Lends cs (slice_set cs me a') (a ∷ []) (a' ∷ []) =
      subst (λ n. Lends cs (slice_set cs n a') (a ∷ []) (a' ∷ [])) at (lends_one cs a a' orderly.numbers (ap (slice_get cs) at ∙ is_a) same) in
      let high : 40 < me = high_at held cs orderly me a p.locus is_a p.runs.is in
      subst (λ m. StepsQuietly m cs (slice_set cs me a') e) at
      (steps_quietly a.clock.entity cs (slice_set cs me a') (a ∷ []) (a' ∷ []) e steps lends orderly.numbers (omega arith) (
        apart_goes held cs orderly a.clock.entity (slice_set cs me a') (a ∷ []) (a' ∷ []) e steps lends me a a' is_a (ap (slice_get (slice_set cs me a')) (sym (same ∙ at)) ∙ lends.stand.0) (same ∙ at)
            (locus_born (cells held cs orderly me) (locus_of p.locus) (locus_at held cs orderly me a p.locus is_a p.runs.is)) (λ some low. absurd (omega (arith, high, low))),
        tt,
      ))

  pub beside_quiet : (y : ℕ) (i : Instr) (planned : IsPlannedAt cs me i (reach.Beside y)) (a b a' b' : Cell) (cs' : List Cell) (e : Entry) → slice_get cs me ≡ Some a → slice_get cs y ≡ Some b → FitsBeside i b.part
      → ((s : Supply) (words : ℕ → List ℕ) → StepsCells s words words a.clock.entity (a ∷ b ∷ []) (a' ∷ b' ∷ []) e) → Lends cs cs' (a ∷ b ∷ []) (a' ∷ b' ∷ []) → KeepsMemory b.part b'.part → StepsQuietly me cs cs' e
  beside_quiet y i planned a b a' b' cs' e is_a is_b fits steps lends keeps =
      let at : a.clock.entity ≡ me = orderly.numbers.each me a is_a in
      let at_b : b.clock.entity ≡ y = orderly.numbers.each y b is_b in
      let p = plan_of held cs orderly me i (reach.Beside y) planned a is_a in
      let high : 40 < me = high_at held cs orderly me a p.locus is_a p.runs.is in
      let same_a = lends.numbers.0 ∙ at in
      let same_b = lends.numbers.1.0 ∙ at_b in
      subst (λ m. StepsQuietly m cs cs' e) at
      (steps_quietly a.clock.entity cs cs' (a ∷ b ∷ []) (a' ∷ b' ∷ []) e steps lends orderly.numbers (omega arith) (
        apart_goes held cs orderly a.clock.entity cs' (a ∷ b ∷ []) (a' ∷ b' ∷ []) e steps lends me a a' is_a (ap (slice_get cs') (sym same_a) ∙ lends.stand.0) same_a
            (locus_born (cells held cs orderly me) (locus_of p.locus) (locus_at held cs orderly me a p.locus is_a p.runs.is)) (λ some low. absurd (omega (arith, high, low))),
        (kept_goes held cs orderly a.clock.entity cs' (a ∷ b ∷ []) (a' ∷ b' ∷ []) e steps lends y b b' (ap (slice_get cs') (sym same_b) ∙ lends.stand.1.0) same_b (fits_born held cs orderly i y b is_b fits) keeps, tt),
      ))
