use Rattle.std.proofs.Common.{◌≡◌, ◌+◌, ◌*◌, ◌<◌, length, arith, ◌∙◌}
use Rattle.std.proofs.lemmas.List.{length-set}
use Rattle.image_facts.specs.Bodies.{number_at, record_in}
use Rattle.image_facts.proofs.Spelling.{row_all, row_more}
use Rattle.image_blocks.proofs.body_reading.blocks_in.Goals as goal

pub loop-i-preserved : goal.loop-i-preserved
loop-i-preserved c =
    let so_far = c.loop-i.invariant in
    let lt : c.loop-i.i < length c.loop-i.blocks = (let a = c.loop-i-test.true in let b = so_far.len in omega (arith, a, b)) in
    record {
      len = length-set c.loop-i.blocks c.loop-i.i c.u32_at.result ∙ so_far.len;
      read = row_more (λ k. number_at (528 + 4 * k) 4 c.args.body.now) c.loop-i.blocks c.loop-i.i c.u32_at.result lt so_far.read c.u32_at.ensures;
    }

pub returns : goal.returns
unfolding record_in
returns c =
    let so_far = c.loop-i.invariant in
    let last : c.loop-i.i ≡ 8 = (let a = c.loop-i-test.false in let b = c.loop-i.auto.i-end in omega (arith, a, b)) in
    row_all (λ k. number_at (528 + 4 * k) 4 c.args.body.now) c.loop-i.blocks c.loop-i.i 8 last so_far.len so_far.read
