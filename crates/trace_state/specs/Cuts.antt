-- How often an entity is on record in a list.
use Rattle.std.specs.Prelude.{ℕ, ◌==◌, List, count_by}
use Rattle.base_types.specs.declared.records.Rec.{Rec}

abbrev pub records_of : List Rec → ℕ → ℕ
records_of recs x = count_by (λ r. r.entity == x) recs
