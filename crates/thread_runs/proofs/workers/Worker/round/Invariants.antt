use Rattle.std.proofs.Common.{◌≤◌, ◌-◌}
use Rattle.thread_runs.specs.Parts.{AreLooks, loci_among}
use Rattle.thread_runs.proofs.workers.Worker.round.Given as goal

abbrev pub invariant-loop-number : goal.invariant-loop-number
invariant-loop-number g l = record {
  low : 41 ≤ l.number;
  looks : AreLooks (loci_among l.self.number l.self.workers (l.number - 41)) l.made l.initial.pass.items l.pass.items;
}
