-- Commits that ascend by entity.
use Rattle.std.specs.Prelude.{◌≡◌, ◌<◌, ◌++◌, ℕ, List, [], ◌∷◌, map}
use Rattle.base_types.specs.declared.histories.Entry.{Entry}
use Rattle.model_serial.specs.model_kernel.Choices.{Commit}
use Rattle.model_serial.specs.model_kernel.Histories.{Run, run_after}
use Rattle.model_serial.specs.model_kernel.Scripts.{Script}
use Rattle.model_serial.specs.model_kernel.State.{Supply}

abbrev pub AllAbove : ℕ → List ℕ → Type 0
AllAbove x [] = Unit {0}
AllAbove x (y ∷ ys) = (x < y) × AllAbove x ys

-- each number once, ascending
abbrev pub Rises : List ℕ → Type 0
Rises [] = Unit {0}
Rises (x ∷ xs) = AllAbove x xs × Rises xs

abbrev pub entities_of : List Commit → List ℕ
entities_of cs = map (λ (c : Commit). c.entity) cs

-- these entries add commits whose entities ascend
pub record MakesRising (s : Supply) (script : Script) (r : Run) (es : List Entry) : Type 0 where
  pub added : List Commit
  pub are : (run_after s script r es).commits ≡ r.commits ++ added
  pub rise : Rises (entities_of added)
