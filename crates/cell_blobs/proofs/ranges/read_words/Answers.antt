use Rattle.std.proofs.Common.{◌<◌, ◌^◌}
use Rattle.std.proofs.lemmas.List.Elements.{All-more}
use Rattle.cell_blobs.proofs.ranges.read_words.Goals as goal

pub loop-value-preserved : goal.loop-value-preserved
loop-value-preserved c = All-more (λ value. value < 2 ^ 64) c.args.values.now c.loop-value.value-index 0 c.loop-value-test.true c.loop-value.invariant (c.type_inv.values c.loop-value.value-index).fits
