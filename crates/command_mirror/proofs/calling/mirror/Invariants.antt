use Rattle.edge_watched.specs.Watching.{start_of}
use Rattle.command_mirror.proofs.calling.mirror.Given as goal

abbrev pub ghosts-mirror_read-N-Answers : goal.ghosts-mirror_read-N-Answers
ghosts-mirror_read-N-Answers g a = record { word = g.m.supply; wish = g.m.policy }

abbrev pub ghosts-mirror_read-N-Handed : goal.ghosts-mirror_read-N-Handed
ghosts-mirror_read-N-Handed g a = record { start = start_of g.D.Disk a.first }
