-- Wishes rest on changes, also after a step.
use Rattle.std.proofs.Common.{◌≡◌, ℕ, zero, suc, ◌+◌, ◌-◌, ◌≤◌, Bool, false, List, [], ◌∷◌, slice_get, Option, Some, None, ap, ◌∙◌, arith}
use Rattle.cell_steps.specs.base_types.declared.histories.Entry.{Entry}
use Rattle.cell_steps.specs.model_kernel.Histories.{Run, after_step, locus_in, start_run}
use Rattle.cell_steps.specs.model_kernel.State.{Supply, KernelState}
use Rattle.cell_steps.specs.model_kernel.Steps.{step}
use Rattle.cell_steps.specs.cell_states.declared.cells.Cell.{Cell}
use Rattle.cell_steps.specs.cell_clocks.Clocks.{HasClock}
use Rattle.cell_steps.specs.cell_states.Wishes.{HasWish}
use Rattle.cell_step_laws.specs.cell_wish_laws.Founded.{IsFoundedCell}
use Rattle.cell_step_laws.specs.Touching.{IsNoted}
use Rattle.cell_step_laws.proofs.Noted.{founded_left, noted}

-- A RUN THAT HAS THE WISHES of some cells, which have up to so many steps left

unfoldable pub left_at : Option Cell → ℕ
left_at (Some c) = c.left
left_at None = 0

unfoldable pub newest_at : Option Cell → ℕ
newest_at (Some c) = c.wish.newest
newest_at None = 0

unfoldable pub by_step_at : Option Cell → Bool
by_step_at (Some c) = c.wish.by_step
by_step_at None = false

unfoldable pub asked_at : Option Cell → Bool
asked_at (Some c) = c.wish.asked
asked_at None = false

abbrev pub run_of : KernelState → (ℕ → Option Cell) → ℕ → Run
run_of w at count = record (start_run w) {
  steps = λ x. count - left_at (at x);
  newest = λ x. newest_at (at x);
  by_step = λ x. by_step_at (at x);
  asked = λ x. asked_at (at x);
}

-- no cell has more steps left than all
pub most_left : List Cell → ℕ
most_left [] = 0
most_left (c ∷ cs) = c.left + most_left cs

within_most : (cs : List Cell) (x : ℕ) (c : Cell) → slice_get cs x ≡ Some c → c.left ≤ most_left cs
unfolding most_left left_at
within_most [] x c is = cc
within_most (b ∷ cs) zero c is = (let same : b.left ≡ c.left = ap left_at is in omega arith)
within_most (b ∷ cs) (suc x) c is = (let less = within_most cs x c is in omega arith)

module _ (w : KernelState) (cs : List Cell) where
  unfoldable pub run_here : Run
  run_here = run_of w (slice_get cs) (most_left cs)

  pub run_wishes : (x : ℕ) (c : Cell) → slice_get cs x ≡ Some c → c.clock.entity ≡ x → HasWish (most_left cs) run_here c
  unfolding run_here left_at newest_at by_step_at asked_at
  run_wishes x c is at =
      let here : slice_get cs c.clock.entity ≡ Some c = ap (slice_get cs) at ∙ is in
      let less = within_most cs x c is in
      record {
        newest = ap newest_at here;
        by_step = ap by_step_at here;
        asked = ap asked_at here;
        left = ap (λ o. most_left cs - left_at o + c.left) here ∙ omega arith;
      }

  -- a cell that has taken in a step
  pub founded_after : (s : Supply) (me : ℕ) (v : KernelState) (e : Entry) (x : ℕ) (c d : Cell) → step s me w ≡ Some (e, v) → slice_get cs x ≡ Some c → c.clock.entity ≡ x
      → d.clock.entity ≡ c.clock.entity → HasClock w c.clock → HasClock v d.clock → HasWish (most_left cs) (after_step run_here e (locus_in (w me).cell) v) d → IsFoundedCell c → IsFoundedCell d
  unfolding run_here
  founded_after s me v e x c d is here at number has had wish f = founded_left s (most_left cs) run_here me v e c d is number has (run_wishes x c here at) had wish f

  -- and its steps left
  pub noted_after : (me : ℕ) (v : KernelState) (e : Entry) (x : ℕ) (c d : Cell) → slice_get cs x ≡ Some c → c.clock.entity ≡ x → d.clock.entity ≡ c.clock.entity
      → HasWish (most_left cs) (after_step run_here e (locus_in (w me).cell) v) d → IsNoted e (locus_in (w me).cell) c d
  unfolding run_here
  noted_after me v e x c d here at number wish = noted (most_left cs) run_here e (locus_in (w me).cell) v c d number (run_wishes x c here at) wish
