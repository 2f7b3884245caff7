use Rattle.std.specs.Prelude.{Some}
use Rattle.thread_history.proofs.authorities.HistoryAuthority.append_with_three.Given as goal

abbrev pub ghosts-append_three : goal.ghosts-append_three
ghosts-append_three g a = record { item = Some a.item.now }
