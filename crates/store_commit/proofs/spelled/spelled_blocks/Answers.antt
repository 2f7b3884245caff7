use Rattle.std.proofs.Common.{refl, ◌+◌, ◌/◌, length, ◌≡◌, ◌∙◌, arith}
use Rattle.std.proofs.lemmas.List.{length-set}
use Rattle.store_books.specs.image_facts.Bodies.{blocks_for}
use Rattle.store_commit.proofs.Chunks.{chunk_more, chunks_all}
use Rattle.store_commit.proofs.spelled.spelled_blocks.Goals as goal

pub loop-i-preserved : goal.loop-i-preserved
loop-i-preserved c =
    let so_far = c.loop-i.invariant in
    let below = c.loop-i-test.true in
    let few = c.requires in (
      length-set _ c.loop-i.i c.filled_up.result ∙ so_far.0,
      chunk_more c.args.bytes.now _ c.filled_up.result _ c.loop-i.i c.min-end.result (let all = so_far.0 in omega (arith, all, below, few)) (omega (arith, below)) c.min-end.ensures refl c.filled_up.ensures so_far.1,
    )

pub returns : goal.returns
returns c =
    let so_far = c.loop-i.invariant in
    let few = c.requires in
    let all : c.loop-i.i ≡ blocks_for (length c.args.bytes.now) = (let a = c.loop-i-test.false in let b = c.loop-i.auto.i-end in omega (arith, a, b)) in
    chunks_all c.args.bytes.now _ c.loop-i.i all (let e = so_far.0 in omega (arith, e, few, all)) so_far.1
