-- The cells that were lent for a quiet step with the atlas.
use Rattle.std.proofs.Common.{◌≡◌, ◌≢◌, inl, inr, ℕ, ◌+◌, ◌<◌, ◌≤◌, Bool, List, [], ◌∷◌, length, slice_get, Some, sym, ap, ◌∙◌, subst, arith}
use Rattle.cell_steps.specs.base_types.declared.histories.Entry.{Entry}
use Rattle.cell_steps.specs.base_types.declared.instructions.Instr.{Instr}
use Rattle.cell_steps.specs.model_kernel.State.{Supply}
use Rattle.cell_steps.specs.data_atlas_facts.Directory.{Directory}
use Rattle.cell_step_laws.specs.act_calls.Calls.{atlas_state}
use Rattle.cell_steps.specs.act_alone.Loci.{locus_of}
use Rattle.cell_steps.specs.cell_states.declared.cells.Cell.{Cell}
use Rattle.cell_steps.specs.cell_newborns.Bearing.{IsNewContainer, IsUnbornContainer}
use Rattle.cell_steps.specs.Advances.{StepsCells}
use Rattle.cell_steps.specs.cell_plans.declared.plans.Reach.{Reach}
use Rattle.cell_steps.specs.cell_plans.declared.plans.Reach.TheVariants as reach
use Rattle.table_laws.specs.Lending.{Lends}
use Rattle.table_laws.specs.Steps.{HasDirectory, IsPlannedAt, StepsQuietly}
use Rattle.table_laws.specs.Tables.{HasKind, IsOrderly, entity_in, state_in}
use Rattle.table_laws.proofs.Facing.{cells, high_at, locus_at, no_supply, no_words, plan_of}
use Rattle.table_laws.proofs.FacingAtlas.{atlas_born, directory_sound, spawning_above}
use Rattle.table_laws.proofs.Pairs.{apart_goes, locus_born}
use Rattle.table_laws.proofs.PartKinds.{born_kind, high_keeps}
use Rattle.table_laws.specs.Quiet.{GoesQuietly}
use Rattle.table_laws.proofs.Quiet.{goes_on, sound_after, steps_quietly}
use Rattle.table_laws.proofs.Spawned.{spawned}

-- three cells with their places
pub record StandAt (cs cs' : List Cell) (a k b a' k' b' : Cell) (x z y : ℕ) : Type 0 where
  pub len : length cs' ≡ length cs
  pub was_a : slice_get cs x ≡ Some a
  pub was_k : slice_get cs z ≡ Some k
  pub was_b : slice_get cs y ≡ Some b
  pub is_a : slice_get cs' x ≡ Some a'
  pub is_k : slice_get cs' z ≡ Some k'
  pub is_b : slice_get cs' y ≡ Some b'
  pub others : (n : ℕ) → n ≢ x → n ≢ z → n ≢ y → slice_get cs' n ≡ slice_get cs n

pub lends_three : (held : ℕ → Bool) (cs cs' : List Cell) (a k b a' k' b' : Cell) (x z y : ℕ) → IsOrderly held cs → StandAt cs cs' a k b a' k' b' x z y
    → a'.clock.entity ≡ a.clock.entity → k'.clock.entity ≡ k.clock.entity → b'.clock.entity ≡ b.clock.entity → Lends cs cs' (a ∷ k ∷ b ∷ []) (a' ∷ k' ∷ b' ∷ [])
lends_three held cs cs' a k b a' k' b' x z y orderly at same_a same_k same_b =
    let at_a = orderly.numbers.each x a at.was_a in
    let at_k = orderly.numbers.each z k at.was_k in
    let at_b = orderly.numbers.each y b at.was_b in
    record {
      len = at.len;
      numbers = (same_a, (same_k, (same_b, tt)));
      stood = (ap (slice_get cs) at_a ∙ at.was_a, (ap (slice_get cs) at_k ∙ at.was_k, (ap (slice_get cs) at_b ∙ at.was_b, tt)));
      stand = (ap (slice_get cs') (same_a ∙ at_a) ∙ at.is_a, (ap (slice_get cs') (same_k ∙ at_k) ∙ at.is_k, (ap (slice_get cs') (same_b ∙ at_b) ∙ at.is_b, tt)));
      others = λ n apart. at.others n (λ e. apart.0 (e ∙ sym at_a)) (λ e. apart.1.0 (e ∙ sym at_k)) (λ e. apart.1.1.0 (e ∙ sym at_b));
    }

module _ (held : ℕ → Bool) (cs : List Cell) (orderly : IsOrderly held cs) (me : ℕ) (i : Instr) (p : Reach) (planned : IsPlannedAt cs me i p) (cs' : List Cell) (e : Entry) where
  -- the locus and the atlas with a third cell
  module _ (a k b a' k' b' : Cell) (y : ℕ) (at : StandAt cs cs' a k b a' k' b' me 0 y) (lends : Lends cs cs' (a ∷ k ∷ b ∷ []) (a' ∷ k' ∷ b' ∷ []))
      (steps : (s : Supply) (words : ℕ → List ℕ) → StepsCells s words words a.clock.entity (a ∷ k ∷ b ∷ []) (a' ∷ k' ∷ b' ∷ []) e) where
    pub three_quiet : GoesQuietly b b' → StepsQuietly me cs cs' e
    three_quiet third =
        let q = plan_of held cs orderly me i p planned a at.was_a in
        let at_a : a.clock.entity ≡ me = orderly.numbers.each me a at.was_a in
        let at_k : k.clock.entity ≡ 0 = orderly.numbers.each 0 k at.was_k in
        let high : 40 < me = high_at held cs orderly me a q.locus at.was_a q.runs.is in
        subst (λ m. StepsQuietly m cs cs' e) at_a
        (steps_quietly a.clock.entity cs cs' (a ∷ k ∷ b ∷ []) (a' ∷ k' ∷ b' ∷ []) e steps lends orderly.numbers (omega arith) (
          apart_goes held cs orderly a.clock.entity cs' (a ∷ k ∷ b ∷ []) (a' ∷ k' ∷ b' ∷ []) e steps lends me a a' at.was_a at.is_a (lends.numbers.0 ∙ at_a)
              (locus_born (cells held cs orderly me) (locus_of q.locus) (locus_at held cs orderly me a q.locus at.was_a q.runs.is)) (λ some low. absurd (omega (arith, high, low))),
          (apart_goes held cs orderly a.clock.entity cs' (a ∷ k ∷ b ∷ []) (a' ∷ k' ∷ b' ∷ []) e steps lends 0 k k' at.was_k at.is_k (lends.numbers.1.0 ∙ at_k) (atlas_born held cs orderly k at.was_k) (λ some low. absurd (omega (arith, some))), (third, tt)),
        ))

    -- the locus that is spawned
    pub spawned_goes : (d : Directory) → HasDirectory cs d → (was : IsPlannedAt cs me i reach.Spawn) → length d.loci < 23 → y ≡ length d.loci + 41 → GoesQuietly b b'
    unfolding cells
    spawned_goes d has was few number =
        let q = plan_of held cs orderly me i reach.Spawn was a at.was_a in
        let at_a : a.clock.entity ≡ me = orderly.numbers.each me a at.was_a in
        let at_b : b'.clock.entity ≡ y = lends.numbers.1.1.0 ∙ orderly.numbers.each y b at.was_b in
        let after = sound_after a.clock.entity cs cs' (a ∷ k ∷ b ∷ []) (a' ∷ k' ∷ b' ∷ []) e steps lends orderly.numbers orderly.sound no_supply no_words in
        let made = goes_on a.clock.entity cs cs' (a ∷ k ∷ b ∷ []) (a' ∷ k' ∷ b' ∷ []) e steps lends orderly.numbers no_supply no_words in
        let above = spawning_above held cs orderly me d a i reach.Spawn has was at.was_a in
        let high : 40 < me = high_at held cs orderly me a q.locus at.was_a q.runs.is in
        let born = spawned no_supply a.clock.entity (state_in no_supply no_words cs) (state_in no_supply no_words cs') e (locus_of q.locus) (atlas_state d) made
        (ap (cells held cs orderly) at_a ∙ locus_at held cs orderly me a q.locus at.was_a q.runs.is) q.runs.runs q.wants (directory_sound held cs orderly d has).atlas few (omega (arith, at_a, high)) (omega (arith, at_a, above)) in
        let kind : HasKind y b'.part = born_kind no_supply no_words after.sound.0 (λ n. (state_in no_supply no_words cs' n).cell) y b'.part after.sound.1
        (sym (ap (λ o. (entity_in no_supply no_words y o).cell) at.is_b)) (λ none. born (ap (λ n. (state_in no_supply no_words cs' n).cell) (sym number) ∙ none)) in
        record {
          kind = subst (λ n. HasKind n b'.part) (sym at_b) kind;
          memory = inl (high_keeps y b.part b'.part (λ some low. absurd (omega (arith, number, low))) (orderly.kinds y b at.was_b) kind);
        }

-- the container that is made
pub made_goes : (y : ℕ) (b b' : Cell) → 0 < y → y ≤ 40 → b'.clock.entity ≡ y → IsUnbornContainer b.part → IsNewContainer b'.part → GoesQuietly b b'
made_goes y b b' some low at unborn new = record { kind = subst (λ n. HasKind n b'.part) (sym at) (subst (HasKind y) (sym new.is) (some, low)); memory = inr (unborn, new) }

-- the locus and the atlas alone
pub two_quiet : (held : ℕ → Bool) (cs : List Cell) (orderly : IsOrderly held cs) (me : ℕ) (i : Instr) (p : Reach) (planned : IsPlannedAt cs me i p) (cs' : List Cell) (e : Entry) (a k a' k' : Cell)
    → slice_get cs me ≡ Some a → slice_get cs 0 ≡ Some k → slice_get cs' me ≡ Some a' → slice_get cs' 0 ≡ Some k' → Lends cs cs' (a ∷ k ∷ []) (a' ∷ k' ∷ [])
    → ((s : Supply) (words : ℕ → List ℕ) → StepsCells s words words a.clock.entity (a ∷ k ∷ []) (a' ∷ k' ∷ []) e) → StepsQuietly me cs cs' e
two_quiet held cs orderly me i p planned cs' e a k a' k' was_a was_k is_a is_k lends steps =
    let q = plan_of held cs orderly me i p planned a was_a in
    let at_a : a.clock.entity ≡ me = orderly.numbers.each me a was_a in
    let at_k : k.clock.entity ≡ 0 = orderly.numbers.each 0 k was_k in
    let high : 40 < me = high_at held cs orderly me a q.locus was_a q.runs.is in
    subst (λ m. StepsQuietly m cs cs' e) at_a
    (steps_quietly a.clock.entity cs cs' (a ∷ k ∷ []) (a' ∷ k' ∷ []) e steps lends orderly.numbers (omega arith) (
      apart_goes held cs orderly a.clock.entity cs' (a ∷ k ∷ []) (a' ∷ k' ∷ []) e steps lends me a a' was_a is_a (lends.numbers.0 ∙ at_a)
          (locus_born (cells held cs orderly me) (locus_of q.locus) (locus_at held cs orderly me a q.locus was_a q.runs.is)) (λ some low. absurd (omega (arith, high, low))),
      (apart_goes held cs orderly a.clock.entity cs' (a ∷ k ∷ []) (a' ∷ k' ∷ []) e steps lends 0 k k' was_k is_k (lends.numbers.1.0 ∙ at_k) (atlas_born held cs orderly k was_k) (λ some low. absurd (omega (arith, some))), tt),
    ))
