use Rattle.std.specs.Prelude.{◌<◌, ◌^◌, take, All}
use Rattle.cell_blobs.proofs.ranges.read_words.Given as goal

abbrev pub invariant-loop-value : goal.invariant-loop-value
invariant-loop-value l = All (λ value. value < 2 ^ 64) (take l.value-index l.values)
