use Rattle.edge_watched.specs.Watching.{start_of}
use Rattle.command_copy.proofs.copying.copy_image.Given as goal

abbrev pub ghosts-copy_watched : goal.ghosts-copy_watched
ghosts-copy_watched g a = record { start = start_of g.D.Disk a.disk }
