use Rattle.std.proofs.Common.{◌≡◌, drop}
use Rattle.image_facts.specs.Checks.{first_not_zero}
use Rattle.image_blocks.proofs.faults.nonzero_from.Given as goal

abbrev pub invariant-loop-i : goal.invariant-loop-i
invariant-loop-i l = first_not_zero l.fn.place (drop l.fn.place l.block) ≡ first_not_zero l.i (drop l.i l.block)
