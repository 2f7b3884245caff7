use Rattle.std.proofs.Common.{◌≡◌, None, map}
use Rattle.base_types.specs.Edges.{upto}
use Rattle.image_facts.specs.model_kernel.Words.{first}
use Rattle.image_facts.specs.Checks.{stamp_fault}
use Rattle.image_blocks.proofs.body_reading.stamp_fault.Given as goal

abbrev pub invariant-loop-y : goal.invariant-loop-y
invariant-loop-y l = first (map (stamp_fault l.entity l.version l.body) (upto l.y)) ≡ None
