use Rattle.std.proofs.Common.{◌++◌, get_or, ap, ◌∙◌, arith}
use Rattle.edge_disk.specs.Image.{Image, block_at}
use Rattle.log_reading.proofs.log_facts_lemmas.ReadSoFar.{ReadsOnly-trans}
use Rattle.image_blobs.proofs.Joining.{room_more}
use Rattle.image_blobs.proofs.rooms.read_room.Goals as goal

pub loop-at-preserved : goal.loop-at-preserved
loop-at-preserved g c =
    let disk = g.met.D.Disk in
    let so_far = c.loop-at.invariant in
    record {
      long = (let more = c.in_ok-add_block.ensures.long in let was = so_far.long in omega (arith, more, was));
      later = (let before = so_far.later in let now = c.add_block.ensures.cause.later in omega (arith, before, now));
      bytes = λ t.
          room_more (g.D.Disk.reading c.args.disk.now) c.loop-at.at-index c.args.blocks.now c.loop-at.room c.add_block.new.room c.loop-at-test.true (so_far.bytes t)
          (c.in_ok-add_block.ensures.bytes t ∙ ap (λ (image : Image). c.loop-at.room ++ block_at image (get_or c.args.blocks.now c.loop-at.at-index 0)) (so_far.same.same_reading t));
      same = ReadsOnly-trans _ _ _ (λ t d s b. disk.counts_now d s b t) so_far.same c.add_block.ensures.same;
    }
