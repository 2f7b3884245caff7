-- Cells of a table that was split for lending come back to their places.
use Rattle.std.proofs.Common.{◌≡◌, ℕ, ◌<◌, ◌≤◌, List, [], ◌∷◌, ◌++◌, length, slice_set, sym, ap, ◌∙◌, arith}
use Rattle.std.proofs.lemmas.List.{set_comm}
use Rattle.thread_cell_steps.specs.table_laws.cell_states.declared.cells.Cell.{Cell}
use Rattle.thread_cell_steps.proofs.table_laws_lemmas.Places.{write_three, write_two}
use Rattle.thread_cell_steps.specs.Advancing.{with_cells}

-- of two numbers that differ, where the second isn't lower it is higher
pub above : (i j : ℕ) → i ≤ j → (j ≡ i → ⊥) → i < j
above i j low differs = omega arith

-- the table, where these cells are others now, by the numbers of the cells
at_numbers : (cs : List Cell) (a a' b b' : Cell) (i j : ℕ) → a.clock.entity ≡ i → b.clock.entity ≡ j → slice_set (slice_set cs i a') j b' ≡ with_cells cs (a ∷ b ∷ []) (a' ∷ b' ∷ [])
at_numbers cs a a' b b' i j at_a at_b = sym (λ t. slice_set (slice_set cs (at_a t) a') (at_b t) b')

at_three : (cs : List Cell) (a a' k k' b b' : Cell) (i n j : ℕ) → a.clock.entity ≡ i → k.clock.entity ≡ n → b.clock.entity ≡ j
    → slice_set (slice_set (slice_set cs i a') n k') j b' ≡ with_cells cs (a ∷ k ∷ b ∷ []) (a' ∷ k' ∷ b' ∷ [])
at_three cs a a' k k' b b' i n j at_a at_k at_b = sym (λ t. slice_set (slice_set (slice_set cs (at_a t) a') (at_k t) k') (at_b t) b')

module _ (cs front back : List Cell) (a a' b b' : Cell) (i j : ℕ) (at_a : a.clock.entity ≡ i) (at_b : b.clock.entity ≡ j) (is : cs ≡ front ++ back) where
  -- the first of two has the higher number, or the lower
  pub back_high : length front ≡ i → j < i → slice_set front j b' ++ slice_set back 0 a' ≡ with_cells cs (a ∷ b ∷ []) (a' ∷ b' ∷ [])
  back_high len lt = write_two cs front back i j b' a' is len lt ∙ set_comm cs j i b' a' (λ e. absurd (omega (arith, e))) ∙ at_numbers cs a a' b b' i j at_a at_b

  pub back_low : length front ≡ j → i < j → slice_set front i a' ++ slice_set back 0 b' ≡ with_cells cs (a ∷ b ∷ []) (a' ∷ b' ∷ [])
  back_low len lt = write_two cs front back j i a' b' is len lt ∙ at_numbers cs a a' b b' i j at_a at_b

-- of three, the second stands first
module _ (cs front back first rest : List Cell) (a a' k k' b b' : Cell) (i j : ℕ) (at_a : a.clock.entity ≡ i) (at_k : k.clock.entity ≡ 0) (at_b : b.clock.entity ≡ j)
    (is : cs ≡ front ++ back) (splits : front ≡ first ++ rest) where
  -- and the first has the highest number, or the third
  pub back_highest : length front ≡ i → length first ≡ j → 0 < j → j < i → (slice_set first 0 k' ++ slice_set rest 0 b') ++ slice_set back 0 a' ≡ with_cells cs (a ∷ k ∷ b ∷ []) (a' ∷ k' ∷ b' ∷ [])
  back_highest len low some lt =
      write_three cs front back first rest i j 0 k' b' a' is len splits low some lt
      ∙ set_comm (slice_set cs 0 k') j i b' a' (λ e. absurd (omega (arith, e)))
      ∙ ap (λ (l : List Cell). slice_set l j b') (set_comm cs 0 i k' a' (λ e. absurd (omega (arith, e))))
      ∙ at_three cs a a' k k' b b' i 0 j at_a at_k at_b

  pub back_middle : length front ≡ j → length first ≡ i → 0 < i → i < j → (slice_set first 0 k' ++ slice_set rest 0 a') ++ slice_set back 0 b' ≡ with_cells cs (a ∷ k ∷ b ∷ []) (a' ∷ k' ∷ b' ∷ [])
  back_middle len low some lt =
      write_three cs front back first rest j i 0 k' a' b' is len splits low some lt
      ∙ ap (λ (l : List Cell). slice_set l j b') (set_comm cs 0 i k' a' (λ e. absurd (omega (arith, e))))
      ∙ at_three cs a a' k k' b b' i 0 j at_a at_k at_b
