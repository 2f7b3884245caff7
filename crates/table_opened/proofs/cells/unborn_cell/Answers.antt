use Rattle.std.proofs.Common.{None, subst, sym}
use Rattle.kernel_record_facts.specs.cell_states.declared.cells.Cell.{Cell}
use Rattle.table_opened.specs.Opened.{IsChosenCell}
use Rattle.table_opened.proofs.OneCell.{unborn_cell}
use Rattle.table_opened.proofs.cells.unborn_cell.Goals as goal

pub returns : goal.returns
returns c =
    subst (λ (d : Cell). IsChosenCell c.args.frames c.args.steps c.args.x None d) (sym c.fresh_cell.ensures)
    (unborn_cell c.args.frames c.args.steps c.args.x c.new.result c.in_ok-part.part c.new.ensures.entity c.new.ensures.version c.new.ensures.stamp c.in_ok-part.ensures)
