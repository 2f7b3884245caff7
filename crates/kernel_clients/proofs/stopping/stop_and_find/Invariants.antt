use Rattle.edge_managers.specs.Managers.{counted_word}
use Rattle.kernel_clients.proofs.stopping.stop_and_find.Given as goal

-- the words of the program's supplier
abbrev pub ghost-read_image : goal.ghost-read_image
ghost-read_image a = counted_word
