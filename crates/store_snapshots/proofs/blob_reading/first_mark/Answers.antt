use Rattle.std.proofs.Common.{◌∙◌, arith}
use Rattle.std.proofs.lemmas.List.{get_or_default}
use Rattle.store_snapshots.proofs.blob_reading.first_mark.Goals as goal

pub returns-then-byte-ne0 : goal.returns-then-byte-ne0
returns-then-byte-ne0 c = record { from = omega arith; within = c.loop-i-test.true; not_zero = c.if-byte-ne0.true; first = λ q low lt. c.loop-i.invariant q lt }

pub returns : goal.returns
returns c = λ k d lt. get_or_default c.args.bytes.now k d 0 lt ∙ c.loop-i.invariant k (let past = c.loop-i-test.false in omega (arith, lt, past))
