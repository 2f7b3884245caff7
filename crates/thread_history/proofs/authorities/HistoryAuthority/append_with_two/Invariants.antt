use Rattle.std.specs.Prelude.{Some}
use Rattle.thread_history.proofs.authorities.HistoryAuthority.append_with_two.Given as goal

abbrev pub ghosts-append_two : goal.ghosts-append_two
ghosts-append_two g a = record { item = Some a.item.now }
