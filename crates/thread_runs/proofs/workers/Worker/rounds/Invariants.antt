use Rattle.thread_runs.specs.Parts.{AreRounds}
use Rattle.thread_runs.proofs.workers.Worker.rounds.Given as goal

abbrev pub invariant-loop : goal.invariant-loop
invariant-loop g l = AreRounds l.self.number l.self.workers l.fn.pass.items → AreRounds l.self.number l.self.workers l.pass.items
