use Rattle.std.proofs.Common.{◌≡◌, None, map}
use Rattle.base_types.specs.Edges.{upto}
use Rattle.image_facts.specs.model_kernel.Words.{first}
use Rattle.image_facts.specs.Checks.{block_fault}
use Rattle.image_blocks.proofs.body_reading.blocks_fault.Given as goal

abbrev pub invariant-loop-i : goal.invariant-loop-i
invariant-loop-i l = first (map (block_fault l.count l.need l.blocks) (upto l.i)) ≡ None
