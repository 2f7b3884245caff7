use Rattle.std.specs.Prelude.{Some}
use Rattle.thread_history.proofs.authorities.HistoryAuthority.append_with_one.Given as goal

abbrev pub ghosts-append_one : goal.ghosts-append_one
ghosts-append_one g a = record { item = Some a.item.now }
