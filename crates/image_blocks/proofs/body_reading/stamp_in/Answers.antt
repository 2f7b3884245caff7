use Rattle.std.proofs.Common.{◌≡◌, ◌+◌, ◌*◌, ◌<◌, length, arith, ◌∙◌}
use Rattle.std.proofs.lemmas.List.{length-set}
use Rattle.image_facts.specs.Bodies.{number_at, record_in}
use Rattle.image_facts.proofs.Spelling.{row_all, row_more}
use Rattle.image_blocks.proofs.body_reading.stamp_in.Goals as goal

pub loop-y-preserved : goal.loop-y-preserved
loop-y-preserved c =
    let so_far = c.loop-y.invariant in
    let lt : c.loop-y.y < length c.loop-y.stamp = (let a = c.loop-y-test.true in let b = so_far.len in omega (arith, a, b)) in
    record {
      len = length-set c.loop-y.stamp c.loop-y.y c.u64_at.result ∙ so_far.len;
      read = row_more (λ k. number_at (16 + 8 * k) 8 c.args.body.now) c.loop-y.stamp c.loop-y.y c.u64_at.result lt so_far.read c.u64_at.ensures;
    }

pub returns : goal.returns
unfolding record_in
returns c =
    let so_far = c.loop-y.invariant in
    let last : c.loop-y.y ≡ 64 = (let a = c.loop-y-test.false in let b = c.loop-y.auto.y-end in omega (arith, a, b)) in
    row_all (λ k. number_at (16 + 8 * k) 8 c.args.body.now) c.loop-y.stamp c.loop-y.y 64 last so_far.len so_far.read
