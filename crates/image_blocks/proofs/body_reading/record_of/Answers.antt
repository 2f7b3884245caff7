use Rattle.std.proofs.Common.{◌≡◌, arith}
use Rattle.image_facts.specs.Bodies.{number_at, record_in}
use Rattle.base_bytes.proofs.Filling.{some_gives}
use Rattle.image_facts.proofs.Fits.{made_is}
use Rattle.image_blocks.proofs.body_reading.record_of.Goals as goal

pub returns : goal.returns
unfolding record_in
returns c =
    let entity : c.unwrap.result ≡ number_at 0 4 c.args.body.now =
    (let m = some_gives _ _ _ c.unwrap.ensures c.new.ensures.made in let low = c.requires in let read = c.u32_at-number.ensures in omega (arith, m, low, read)) in
    made_is (record_in c.args.body.now) c.unwrap.result c.u64_at.result c.stamp_in.result c.u32_at.result c.blocks_in.result entity c.u64_at.ensures c.stamp_in.ensures c.u32_at.ensures c.blocks_in.ensures
