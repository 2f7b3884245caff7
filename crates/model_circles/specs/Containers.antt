-- Edges between containers.
use Rattle.std.specs.Prelude.{ℕ, ◌<◌, ◌≤◌}
use Rattle.base_types.specs.Edges.{Edges}

-- edges lead from containers to containers alone
abbrev pub IsAmongContainers : Edges → Type 0
IsAmongContainers edges = (x y : ℕ) → 0 < edges x y → (1 ≤ x) × (x < 41) × (1 ≤ y) × (y < 41)
