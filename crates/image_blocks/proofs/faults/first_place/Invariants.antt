use Rattle.std.proofs.Common.{◌≡◌, drop}
use Rattle.image_facts.specs.model_kernel.Words.{first}
use Rattle.image_blocks.proofs.faults.first_place.Given as goal

abbrev pub invariant-loop-place : goal.invariant-loop-place
invariant-loop-place l = first l.places ≡ first (drop l.place-index l.places)
