use Rattle.std.specs.Prelude.{replicate}
use Rattle.thread_drawers.proofs.tests.drawers_and_the_store_agree_after_two_threads.Given as goal

abbrev pub ghosts-two_threads : goal.ghosts-two_threads
ghosts-two_threads g a = record { values_table = a.opened.table; first_values = replicate 64 7 }
