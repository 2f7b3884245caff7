use Rattle.std.proofs.Common.{◌≡◌, refl, length, replicate, arith}
use Rattle.image_facts.proofs.Filling.{filled_block, filled_head, filled_middle, filled_stamp, filled_whole}
use Rattle.base_bytes.proofs.Filling.{ok_gives}
use Rattle.image_blocks.proofs.bodies.body_block.Goals as goal

pub loop-y-init : goal.loop-y-init
loop-y-init c =
    let done = filled_head c.args.rec.now c.number.result (replicate 1024 0) c.put_u32.new.bytes c.put_u32-2.new.bytes c.put_u64.new.bytes refl c.number.ensures.number
    (ok_gives _ _ _ c.unwrap.ensures c.put_u32.ensures.ok) (ok_gives _ _ _ c.unwrap-2.ensures c.put_u32-2.ensures.ok) (ok_gives _ _ _ c.unwrap-3.ensures c.put_u64.ensures.ok) in
    record { len = done.0; filled = done.1; all = λ some. absurd (omega (arith, some)) }

pub loop-y-preserved : goal.loop-y-preserved
loop-y-preserved c =
    let all : length c.args.rec.now.stamp ≡ 64 = omega arith in
    let done = filled_stamp c.args.rec.now c.loop-y.y _ _ _ (let a = c.loop-y-test.true in omega (arith, a, all)) refl c.loop-y.invariant.len c.loop-y.invariant.filled
    (ok_gives _ _ _ c.unwrap-in-loop-y.ensures c.put_u64-in-loop-y.ensures.ok) in
    record { len = done.0; filled = done.1; all = λ some. all }

pub loop-i-init : goal.loop-i-init
loop-i-init c =
    let last : c.loop-y.y ≡ 64 = (let a = c.loop-y-test.false in let b = c.loop-y.auto.y-end in omega (arith, a, b)) in
    let all : length c.args.rec.now.stamp ≡ 64 = c.loop-y.invariant.all (omega (arith, last)) in
    let done = filled_middle c.args.rec.now c.loop-y.y c.loop-y.block (omega (arith, last, all)) (let a = c.loop-y.invariant.len in omega (arith, a, last)) c.loop-y.invariant.filled in
    record { len = done.0; filled = done.1; all = λ some. absurd (omega (arith, some)) }

pub loop-i-preserved : goal.loop-i-preserved
loop-i-preserved c =
    let all : length c.args.rec.now.blocks ≡ 8 = omega arith in
    let done = filled_block c.args.rec.now c.loop-i.i _ _ _ (let a = c.loop-i-test.true in omega (arith, a, all)) refl c.loop-i.invariant.len c.loop-i.invariant.filled
    (ok_gives _ _ _ c.unwrap-in-loop-i.ensures c.put_u32-in-loop-i.ensures.ok) in
    record { len = done.0; filled = done.1; all = λ some. all }

pub returns : goal.returns
returns c =
    let last : c.loop-i.i ≡ 8 = (let a = c.loop-i-test.false in let b = c.loop-i.auto.i-end in omega (arith, a, b)) in
    let all : length c.args.rec.now.blocks ≡ 8 = c.loop-i.invariant.all (omega (arith, last)) in
    filled_whole c.args.rec.now c.loop-i.i c.loop-i.block (omega (arith, last, all)) (let a = c.loop-i.invariant.len in omega (arith, a, last)) c.loop-i.invariant.filled
