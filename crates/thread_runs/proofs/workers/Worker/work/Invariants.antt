use Rattle.std.proofs.Common.{ℕ, [], true}
use Rattle.thread_runs.specs.Parts.{AreLooks, loci_of, round_and_round}
use Rattle.thread_runs.proofs.workers.Worker.work.Given as goal

abbrev pub invariant-loop : goal.invariant-loop
invariant-loop g l = (goal.iterator-loop g).can_next l.iterator' × (goal.iterator-loop g).is_finite l.iterator'
    × ((rounds : ℕ) × AreLooks (round_and_round rounds (loci_of l.self.number l.self.workers)) true [] l.pass.items)
