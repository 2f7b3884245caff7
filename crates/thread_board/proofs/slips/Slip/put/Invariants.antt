use Rattle.std.specs.Prelude.{Some}
use Rattle.thread_board.proofs.slips.Slip.put.Given as goal

abbrev pub ghosts-add_item : goal.ghosts-add_item
ghosts-add_item g a = record { item = Some a.item.now }
