use Rattle.base_managers.specs.Managing.{managers_of}
use Rattle.command_promises.specs.TraceBooked.{over}
use Rattle.command_check_trace.proofs.checking.check_bytes.Given as goal

abbrev pub ghosts-check_read-N-Answers : goal.ghosts-check_read-N-Answers
ghosts-check_read-N-Answers g a = record { word = g.m.word; wish = g.m.wish }

abbrev pub ghosts-check_read-B-Answers : goal.ghosts-check_read-B-Answers
ghosts-check_read-B-Answers g a = record { word = (over (managers_of a.traced.now.read.managers) g.m).word; wish = (over (managers_of a.traced.now.read.managers) g.m).wish }
