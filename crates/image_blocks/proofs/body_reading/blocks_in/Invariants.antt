use Rattle.std.proofs.Common.{◌≡◌, ◌+◌, ◌*◌, length, map, take}
use Rattle.base_types.specs.Edges.{upto}
use Rattle.image_facts.specs.Bodies.{number_at}
use Rattle.image_blocks.proofs.body_reading.blocks_in.Given as goal

abbrev pub invariant-loop-i : goal.invariant-loop-i
invariant-loop-i l = record { len : length l.blocks ≡ 8; read : take l.i l.blocks ≡ map (λ k. number_at (528 + 4 * k) 4 l.body) (upto l.i) }
