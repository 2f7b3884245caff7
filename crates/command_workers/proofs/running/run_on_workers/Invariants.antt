use Rattle.edge_watched.specs.Watching.{start_of}
use Rattle.command_workers.proofs.running.run_on_workers.Given as goal

abbrev pub ghosts-run_read-N-Answers : goal.ghosts-run_read-N-Answers
ghosts-run_read-N-Answers g a = record { word = g.m.supply; wish = g.m.policy }

abbrev pub ghosts-run_read-N-Handed : goal.ghosts-run_read-N-Handed
ghosts-run_read-N-Handed g a = record { start = start_of g.D.Disk a.disk }
