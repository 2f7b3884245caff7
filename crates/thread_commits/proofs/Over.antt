-- What is true of a list of cells and of a lent cell is true of what they were before, where they were not changed.
use Rattle.std.proofs.Common.{◌≡◌, List, ap, subst, ◌∙◌}
use Rattle.thread_cells.specs.Locked.{Keeping}
use Rattle.kernel_commit_facts.specs.cell_states.declared.cells.Cell.{Cell}
use Rattle.kernel_commit_facts.specs.store_facts.State.{State}
use Rattle.kernel_commit_facts.specs.Parts.{Noted, parts_of}

pub over : (xs ys : List Cell) (k m : Keeping) → xs ≡ ys → k ≡ m → (P : List Cell → Keeping → Type 0) → P xs k → P ys m
over xs ys k m lists cells P h = subst (λ z. P ys z) cells (subst (λ l. P l k) lists h)

-- parts of the same are the same
pub same_parts : {D : Type 0} (s t : State D) (k l : List Cell) (n m : Noted) → s ≡ t → k ≡ l → n ≡ m → parts_of s k n ≡ parts_of t l m
same_parts s t k l n m a b c = ap (λ z. parts_of z k n) a ∙ (ap (λ z. parts_of t z n) b ∙ ap (parts_of t l) c)
