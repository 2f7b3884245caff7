use Rattle.std.specs.Prelude.{Some}
use Rattle.thread_drawers.proofs.drawers.Store.move_into.Given as goal

abbrev pub ghosts-change : goal.ghosts-change
ghosts-change g a = record { value = Some a.about.now }
