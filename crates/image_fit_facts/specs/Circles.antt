-- Marks of containers, spread from those that show no others.
use Rattle.std.specs.Prelude.{◌≡◌, ℕ, ◌<◌, Bool, false, List}
use Rattle.model_circles.specs.Marks.{is_marked}
use Rattle.base_types.specs.Edges.{Edges}

-- the container shows regions of one that isn't marked
pub record ShowsUnmarked (edges : Edges) (marks : List Bool) (container : ℕ) : Type 0 where
  pub other : ℕ
  pub is_container : other < 41
  pub unmarked : is_marked marks other ≡ false
  pub shows : 0 < edges container other

-- it isn't marked, and shows none that isn't
pub record IsLeaf (edges : Edges) (marks : List Bool) (container : ℕ) : Type 0 where
  pub is_container : container < 41
  pub unmarked : is_marked marks container ≡ false
  pub none : ShowsUnmarked edges marks container → ⊥

-- each that isn't marked shows one that isn't
abbrev pub IsStuck : Edges → List Bool → Type 0
IsStuck edges marks = (container : ℕ) → container < 41 → is_marked marks container ≡ false → ShowsUnmarked edges marks container
