use Rattle.std.specs.Prelude.{◌<◌, ◌^◌, take, All}
use Rattle.node_store.proofs.delivering.read_numbers.Given as goal

abbrev pub invariant-loop-block : goal.invariant-loop-block
invariant-loop-block l = All (λ block. block < 2 ^ 32) (take l.block-index l.blocks)
