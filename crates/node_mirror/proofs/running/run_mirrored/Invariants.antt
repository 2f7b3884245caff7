use Rattle.std.proofs.Common.{[]}
use Rattle.drawn_words.specs.Words.{words_numbered}
use Rattle.node_mirror.proofs.running.run_mirrored.Given as goal
use Rattle.node_rounds.specs.node_standby.Following.{Follows}

abbrev pub ghosts-run_since : goal.ghosts-run_since
ghosts-run_since g a = record { began = λ b. Follows b [] g.E.Disk a.standby; words = words_numbered a.losing.seed 55; loss = a.losing.loss; faults = g.E.Disk.faults a.standby.store.disk }
