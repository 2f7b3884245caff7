use Rattle.std.specs.Prelude.{Some}
use Rattle.thread_history.proofs.authorities.HistoryAuthority.append_alone.Given as goal

abbrev pub ghosts-append_told : goal.ghosts-append_told
ghosts-append_told g a = record { item = Some a.item.now }
