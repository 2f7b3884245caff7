use Rattle.std.proofs.Common.{◌≡◌, ◌+◌, ◌*◌, length, map, take}
use Rattle.base_types.specs.Edges.{upto}
use Rattle.image_facts.specs.Bodies.{number_at}
use Rattle.image_blocks.proofs.body_reading.stamp_in.Given as goal

abbrev pub invariant-loop-y : goal.invariant-loop-y
invariant-loop-y l = record { len : length l.stamp ≡ 64; read : take l.y l.stamp ≡ map (λ k. number_at (16 + 8 * k) 8 l.body) (upto l.y) }
