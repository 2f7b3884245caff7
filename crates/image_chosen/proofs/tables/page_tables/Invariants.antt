use Rattle.std.proofs.Common.{◌≡◌, length}
use Rattle.image_chosen.proofs.Placing.{TablesTo}
use Rattle.image_chosen.proofs.tables.page_tables.Given as goal

abbrev pub invariant-loop-entity : goal.invariant-loop-entity
invariant-loop-entity l = record {
  long : length l.tables.items ≡ l.entity-index;
  tables : TablesTo l.parts.entities.items l.tables.items l.entity-index;
}
