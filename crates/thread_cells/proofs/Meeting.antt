-- A lent cell is the one that the authority knows, and comes back to its place.
use Rattle.std.proofs.Common.{◌≡◌, ℕ, List, slice_get, slice_set, Some, sym, ap, ◌∙◌}
use Rattle.cell_states.specs.declared.cells.Cell.{Cell}
use Rattle.thread_ties.specs.Rules.{Shown}

pub met : (cs : List Cell) (f : Shown Cell) (n : ℕ) (a : Cell) → f.number ≡ n → f.value ≡ Some a → slice_get cs f.number ≡ f.value → slice_get cs n ≡ Some a
met cs f n a number value agreed = ap (slice_get cs) (sym number) ∙ agreed ∙ value

pub put_back : (cs xs ys : List Cell) (f h : Shown Cell) (n : ℕ) (d : Cell) → ys ≡ slice_set xs h.number d → xs ≡ cs → h ≡ f → f.number ≡ n → ys ≡ slice_set cs n d
put_back cs xs ys f h n d is same kept number = is ∙ ap (λ (l : List Cell). slice_set l h.number d) same ∙ ap (λ (k : ℕ). slice_set cs k d) (ap (λ (k : Shown Cell). k.number) kept ∙ number)
