use Rattle.std.specs.Prelude.{Some}
use Rattle.thread_desk.proofs.tills.tell_store.Given as goal

abbrev pub ghosts-change : goal.ghosts-change
ghosts-change g a = record { value = Some a.about.now }
