-- Which entities an event writes.
use Rattle.std.specs.Prelude.{ℕ, ◌&&◌, ◌==◌, Bool, List}
use Rattle.std.specs.List.{list_any}
use Rattle.base_types.specs.declared.histories.Touch.{Touch}

-- whether the touches write the entity
abbrev pub wrote_in : List Touch → ℕ → Bool
wrote_in ts x = list_any (λ t. t.entity == x && t.wrote) ts
