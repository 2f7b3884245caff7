-- A step that leaves all blocks as they are keeps the table in order.
use Rattle.std.proofs.Common.{◌≡◌, inl, inr, ℕ, ◌≤◌, Bool, List, length, slice_get, Some, refl, sym, ap, ◌∙◌, subst}
use Rattle.cell_steps.specs.base_types.declared.histories.Entry.{Entry}
use Rattle.cell_steps.specs.model_kernel.Histories.{after_step, locus_in}
use Rattle.cell_steps.specs.model_kernel.State.{Supply, KernelState}
use Rattle.cell_steps.specs.model_kernel.Steps.{step}
use Rattle.cell_steps.specs.cell_states.declared.cells.Cell.{Cell}
use Rattle.cell_steps.specs.cell_states.Wishes.{HasWish}
use Rattle.cell_step_laws.specs.cell_wish_laws.Founded.{IsFoundedCell}
use Rattle.model_sound_states.specs.States.{IsSoundState}
use Rattle.model_sound_states.proofs.States.{step_state}
use Rattle.cell_steps.specs.Advances.{StepsCells}
use Rattle.table_laws.specs.Lending.{ForPairs, Lends}
use Rattle.table_laws.specs.Quiet.{GoesQuietly}
use Rattle.table_laws.specs.Steps.{EntersStep, StepsQuietly}
use Rattle.table_laws.specs.Tables.{AreNumbered, IsOrderly, entity_in, state_in}
use Rattle.table_laws.proofs.Founding.{founded_after, most_left, noted_after, run_here, run_wishes}
use Rattle.table_laws.proofs.Entered.{StaysOrNotes, entered_by}
use Rattle.table_laws.proofs.Untouched.{untouched_unwritten}
use Rattle.cell_step_laws.specs.Touching.{IsNoted}
use Rattle.table_laws.proofs.Going.{apart_untouched, table_steps, table_wishes}
use Rattle.table_laws.proofs.Having.{each_wishes, state_has, state_has_all, wishes_all}
use Rattle.table_laws.proofs.Kept.{clean_after, orderly_with, tables_same}
use Rattle.table_laws.proofs.Lent.{lent_three, spot}
use Rattle.std.proofs.lemmas.Option.{same_Some}
use Rattle.cell_steps.proofs.Taking.{no_supply, no_words}

-- THE TABLE AFTER IT
module _ (me : ℕ) (cs cs' old new : List Cell) (e : Entry) (steps : (s : Supply) (words : ℕ → List ℕ) → StepsCells s words words me old new e) (lends : Lends cs cs' old new) (numbers : AreNumbered cs) where
  pub goes_on : (s : Supply) (words : ℕ → List ℕ) → step s me (state_in s words cs) ≡ Some (e, state_in s words cs')
  goes_on s words = table_steps s words words me cs cs' old new e (steps s words) lends numbers (λ x c is apart. refl)

  pub sound_after : ((s : Supply) (words : ℕ → List ℕ) → IsSoundState s (state_in s words cs)) → (s : Supply) (words : ℕ → List ℕ) → IsSoundState s (state_in s words cs')
  sound_after sound s words = step_state s me (state_in s words cs) (e, state_in s words cs') (sound s words) (goes_on s words)

  -- marks of wishes, by a run that has the wishes of all cells
  w : KernelState
  w = state_in no_supply no_words cs

  v : KernelState
  v = state_in no_supply no_words cs'

  wishes_after : ForPairs (λ c d. HasWish (most_left cs) (after_step (run_here w cs) e (locus_in (w me).cell) v) d) old new
  unfolding run_here w v
  wishes_after = each_wishes (most_left cs) (after_step (run_here w cs) e (locus_in (w me).cell) v) old new lends.numbers
      ((steps no_supply no_words).wishes (most_left cs) (run_here w cs) v (state_has_all no_supply no_words cs old lends.stood)
      (wishes_all (most_left cs) (run_here w cs) cs old lends.stood (λ x c is. run_wishes w cs x c is (numbers.each x c is))))

  entered : length old ≤ 3 → EntersStep me cs cs' e
  unfolding w v
  entered few = entered_by no_supply me w v cs cs' e (locus_in (w me).cell) (goes_on no_supply no_words)
      (λ x c was. ap (λ o. (entity_in no_supply no_words x o).version) was) (λ x d is. ap (λ o. (entity_in no_supply no_words x o).version) is)
      (λ x c d was is. elim (spot (λ c d. HasWish (most_left cs) (after_step (run_here w cs) e (locus_in (w me).cell) v) d) cs cs' x old new lends wishes_after) as (λ _. StaysOrNotes e (locus_in (w me).cell) x c d) [
        | inl k ↦ inr (
          numbers.each x c was,
          subst (λ m. IsNoted e (locus_in (w me).cell) m d) (same_Some k.before c (sym k.was ∙ was)) (subst (IsNoted e (locus_in (w me).cell) k.before) (same_Some k.after d (sym k.is ∙ is))
              (noted_after w cs me v e x k.before k.after k.was k.at_before (k.at_after ∙ sym k.at_before) k.holds)),
        )
        | inr k ↦ inl (
          same_Some d c (sym is ∙ k.same ∙ was),
          untouched_unwritten e x (apart_untouched no_supply no_words no_words me cs cs' old new e (steps no_supply no_words) lends numbers (λ x c is apart. refl) x k.apart),
        )
      ])
      (lent_three cs cs' old new lends few)

  module _ (few : length old ≤ 3) (pairs : ForPairs GoesQuietly old new) where
    module _ (held : ℕ → Bool) (orderly : IsOrderly held cs) where
      founded_after_step : (x : ℕ) (d : Cell) → slice_get cs' x ≡ Some d → IsFoundedCell d
      unfolding w v
      founded_after_step x d is = elim (spot (λ c d. HasWish (most_left cs) (after_step (run_here w cs) e (locus_in (w me).cell) v) d) cs cs' x old new lends wishes_after) as (λ _. IsFoundedCell d) [
        | inl k ↦ subst IsFoundedCell (same_Some k.after d (sym k.is ∙ is))
            (founded_after w cs no_supply me v e x k.before k.after (goes_on no_supply no_words) k.was k.at_before (k.at_after ∙ sym k.at_before)
            (state_has no_supply no_words cs k.before (ap (slice_get cs) k.at_before ∙ k.was)).clock (state_has no_supply no_words cs' k.after (ap (slice_get cs') k.at_after ∙ k.is)).clock k.holds (orderly.founded x k.before k.was))
        | inr k ↦ orderly.founded x d (sym k.same ∙ is)
      ]

      orderly_after : IsOrderly held cs'
      orderly_after = orderly_with cs cs' old new lends pairs held orderly (sound_after orderly.sound) founded_after_step

    pub steps_quietly : StepsQuietly me cs cs' e
    steps_quietly = record {
      goes = λ s words. record {
        step = goes_on s words;
        wishes = λ count script r at has. table_wishes s words words me cs cs' old new e (steps s words) lends numbers (λ x c is apart. refl) count script r at has;
        clean = clean_after cs cs' old new lends pairs s words;
      };
      orderly = orderly_after;
      blocks = tables_same cs cs' old new lends pairs;
      enters = entered few;
    }
