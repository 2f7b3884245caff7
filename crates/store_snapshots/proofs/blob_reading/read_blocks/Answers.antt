use Rattle.std.proofs.Common.{◌≡◌, ◌<◌, ◌++◌, length, get_or, min, take, ap, subst, ◌∙◌, arith}
use Rattle.edge_disk.specs.Image.{Image, block_at}
use Rattle.store_facts.specs.image_facts.Bodies.{blocks_for}
use Rattle.store_facts.proofs.log_facts_lemmas.ReadSoFar.{ReadsOnly-trans}
use Rattle.store_facts.proofs.BlobReads.{blob_more, blob_whole, rest_more, rest_whole}
use Rattle.store_facts.specs.Rests.{IsRest}
use Rattle.store_snapshots.proofs.blob_reading.read_blocks.Goals as goal

pub loop-i-preserved : goal.loop-i-preserved
loop-i-preserved g c =
    let disk = g.met.D.Disk in
    let so_far = c.loop-i.invariant in
    let below : c.loop-i.i < 8 = (let lt = c.loop-i-test.true in let need = c.min-need.ensures in omega (arith, lt, need)) in
    let all : length c.args.blocks.now ≡ 8 = omega arith in
    record {
      few = (let more = c.push_block.ensures.few.0 in let was = so_far.few.0 in omega (arith, more, was), c.push_block.ensures.few.1);
      later = (let before = so_far.later in let now = c.push_block.ensures.cause.later in omega (arith, before, now));
      rest = λ t.
          rest_more (g.D.Disk.reading c.args.disk.now) c.args.bytes c.loop-i.i c.args.blocks.now c.loop-i.out c.in_ok-rest.rest (omega (arith, below, all)) (so_far.bytes t)
          (let few = so_far.few.0 in let need = c.min-need.ensures in let lt = c.loop-i-test.true in omega (arith, few, need, lt))
          (subst (λ (image : Image). IsRest (c.loop-i.out ++ block_at image (get_or c.args.blocks.now c.loop-i.i 0)) c.args.bytes c.in_ok-rest.rest) (so_far.same.same_reading t) (c.in_ok-rest.ensures.rest t));
      bytes = λ t.
          blob_more (g.D.Disk.reading c.args.disk.now) c.args.bytes c.loop-i.i c.args.blocks.now c.loop-i.out c.push_block.new.out (omega (arith, below, all)) (so_far.bytes t)
          (c.in_ok-rest.ensures.bytes t ∙ ap (λ (image : Image). take c.args.bytes (c.loop-i.out ++ block_at image (get_or c.args.blocks.now c.loop-i.i 0))) (so_far.same.same_reading t));
      same = ReadsOnly-trans _ _ _ (λ t d s b. disk.counts_now d s b t) so_far.same c.push_block.ensures.same;
    }

pub returns-clause-bytes : goal.returns-clause-bytes
returns-clause-bytes g c t =
    let all : length c.args.blocks.now ≡ 8 = omega arith in
    let last : c.loop-i.i ≡ min (blocks_for c.args.bytes) 8 = (let a = c.loop-i-test.false in let b = c.loop-i.auto.i-end in let need = c.min-need.ensures in omega (arith, a, b, need)) in
    blob_whole (g.D.Disk.reading c.args.disk.now) c.args.bytes c.loop-i.i (blocks_for c.args.bytes) c.args.blocks.now c.loop-i.out all last (c.loop-i.invariant.bytes t)

pub returns-clause-rest : goal.returns-clause-rest
returns-clause-rest g c t =
    let all : length c.args.blocks.now ≡ 8 = omega arith in
    let last : c.loop-i.i ≡ min (blocks_for c.args.bytes) 8 = (let a = c.loop-i-test.false in let b = c.loop-i.auto.i-end in let need = c.min-need.ensures in omega (arith, a, b, need)) in
    rest_whole (g.D.Disk.reading c.args.disk.now) c.args.bytes c.loop-i.i (blocks_for c.args.bytes) c.args.blocks.now c.loop-i.rest all last (c.loop-i.invariant.rest t)
