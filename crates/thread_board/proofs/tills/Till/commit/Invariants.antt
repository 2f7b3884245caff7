use Rattle.std.specs.Prelude.{Some}
use Rattle.thread_board.proofs.tills.Till.commit.Given as goal

abbrev pub ghosts-commit : goal.ghosts-commit
ghosts-commit g a = record { item = Some a.line.now }
