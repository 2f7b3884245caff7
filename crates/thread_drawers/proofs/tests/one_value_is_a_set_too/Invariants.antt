use Rattle.std.specs.Prelude.{◌∷◌, []}
use Rattle.thread_drawers.proofs.tests.one_value_is_a_set_too.Given as goal

abbrev pub ghosts-one_drawer : goal.ghosts-one_drawer
ghosts-one_drawer g a = record { values_table = a.opened.table; first_values = 5 ∷ [] }
