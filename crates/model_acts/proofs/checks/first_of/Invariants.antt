use Rattle.std.proofs.Common.{◌≡◌, drop}
use Rattle.model_kernel.specs.Words.{first}
use Rattle.model_acts.proofs.checks.first_of.Given as goal

abbrev pub invariant-loop-check : goal.invariant-loop-check
invariant-loop-check l = first (drop l.check-index l.checks) ≡ first l.checks
