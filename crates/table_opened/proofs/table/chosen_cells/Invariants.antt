use Rattle.std.proofs.Common.{◌≡◌, length}
use Rattle.table_opened.proofs.AllCells.{CellsTo, SameFrom}
use Rattle.table_opened.proofs.table.chosen_cells.Given as goal

abbrev pub invariant-loop-number : goal.invariant-loop-number
invariant-loop-number l = record {
  long : length l.cells.items ≡ l.number;
  size : length l.entities.items ≡ 64;
  ahead : SameFrom l.number l.fn.entities.items l.entities.items;
  cells : CellsTo l.frames l.steps l.fn.entities.items l.cells.items;
}
