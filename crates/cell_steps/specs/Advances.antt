-- Steps over lent cells.
use Rattle.std.specs.Prelude.{◌≡◌, ℕ, List, [], ◌∷◌, Option}
use Rattle.base_types.specs.declared.histories.Answer.TheVariants.{Reply as Replied}
use Rattle.base_types.specs.declared.histories.Entry.{Entry}
use Rattle.base_types.specs.declared.instructions.Reply.TheVariants.{Ok}
use Rattle.page_store.specs.model_kernel.Histories.{Run, after_step, asked_by, locus_in}
use Rattle.page_store.specs.model_kernel.State.{Supply, LocusState, KernelState}
use Rattle.cell_looks.specs.cell_states.declared.cells.Cell.{Cell}
use Rattle.cell_looks.specs.cell_states.Cells.{HasCell}
use Rattle.cell_looks.specs.cell_states.Steps.{Steps}
use Rattle.cell_looks.specs.cell_states.Wishes.{HasWish}
use Rattle.cell_looks.specs.Looking.{StepsSomehow}

-- the state has each of the cells
abbrev pub HasCells : Supply → (ℕ → List ℕ) → KernelState → List Cell → Type 0
HasCells s words w [] = Unit {0}
HasCells s words w (c ∷ cs) = HasCell s words w c × HasCells s words w cs

-- the run has the wish and the steps left of each of the cells
abbrev pub HasWishes : ℕ → Run → List Cell → Type 0
HasWishes steps r [] = Unit {0}
HasWishes steps r (c ∷ cs) = HasWish steps r c × HasWishes steps r cs

-- The step of the locus in each state that has the cells gives this entry, and a state that has them as they are left. Each run that
-- has the cells with their wishes goes on to one that has their wishes as they are left.
pub record StepsCells (s : Supply) (words words' : ℕ → List ℕ) (me : ℕ) (old new : List Cell) (e : Entry) : Type 0 where
  pub step : (w : KernelState) → HasCells s words w old → Steps s me w e (λ v. HasCells s words' v new)
  pub wishes : (steps : ℕ) (r : Run) (v : KernelState) → HasCells s words r.state old → HasWishes steps r old
      → HasWishes steps (after_step r e (locus_in (r.state me).cell) v) new

-- WHATEVER THE STORE TELLS
-- The look of the locus c at the container d is its step at some words of the container. Each run that has the locus, and both wishes,
-- goes on to one that has the wishes as they are left.

pub record AdvancesSomehow (c c' d d' : Cell) (e : Entry) : Type 0 where
  pub steps : StepsSomehow c c' d d' e
  pub wishes : (s : Supply) (words : ℕ → List ℕ) (count : ℕ) (r : Run) (v : KernelState) → HasCell s words r.state c → HasWish count r c → HasWish count r d
      → HasWish count (after_step r e (locus_in (r.state c.clock.entity).cell) v) c' × HasWish count (after_step r e (locus_in (r.state c.clock.entity).cell) v) d'

-- the cell has taken in the step, of a locus whose snap would name this entity
pub record TakesIn (e : Entry) (named : Option ℕ) (old new : Cell) : Type 0 where
  pub clock : new.clock ≡ old.clock
  pub part : new.part ≡ old.part
  pub wish : (steps : ℕ) (r : Run) (l : Option LocusState) (v : KernelState) → named ≡ asked_by (Replied Ok) l → HasWish steps r old → HasWish steps (after_step r e l v) new
