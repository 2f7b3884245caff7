use Rattle.std.proofs.Common.{◌<◌, ◌+◌, ℕ, refl, length, arith}
use Rattle.std.specs.Prelude.{slice_index}
use Rattle.edge_disk.proofs.Images.{SameOutside-one, SameOutside-trans}
use Rattle.edge_disk.proofs.Phases.{IsImage-reading, Quiet-write, told}
use Rattle.edge_tally.proofs.Counting.{Begins-fewer, Begins-then}
use Rattle.store_commit.specs.Storing.{IsBlobBlock}
use Rattle.store_commit.proofs.Filling.{blob_more, counted_then, one_begun}
use Rattle.store_commit.proofs.blobs.write_blob.Goals as goal

pub returns-in_err-write-clause-begins : goal.returns-in_err-write-clause-begins
returns-in_err-write-clause-begins g c =
    let i : ℕ = c.loop-i.i in
    Begins-fewer (i + 1) (length c.args.blob.now) _ _ (let lt = c.loop-i-test.true in omega (arith, lt))
    (Begins-then i 1 _ _ _ c.loop-i.invariant.begins (one_begun _ _ _ _ _ _ _ _ c.write.ensures.count c.write.ensures.begun c.write.ensures.counts c.write.ensures.cause.later))

pub returns-in_err-write-clause-areas : goal.returns-in_err-write-clause-areas
returns-in_err-write-clause-areas g c = counted_then _ _ _ c.loop-i.invariant.counted c.write.ensures.areas

pub returns-in_err-write-clause-any_moment : goal.returns-in_err-write-clause-any_moment
returns-in_err-write-clause-any_moment g c t =
    let disk = g.met.D.Disk in
    let laws = told g.D.Disk t disk.counts_now disk.only_now in
    let these = IsBlobBlock c.args.rec.now (length c.args.blob.now) in
    Quiet-write laws {these = these} (c.loop-i.i, c.loop-i-test.true, refl) (c.loop-i.invariant.quiet t) (c.write.ensures.stop t) (c.write.ensures.time t)

pub loop-i-preserved : goal.loop-i-preserved
loop-i-preserved g c =
    let so_far = c.loop-i.invariant in
    let disk = g.met.D.Disk in
    let i : ℕ = c.loop-i.i in
    let place : ℕ = slice_index c.args.rec.now.blocks i in
    let inside : IsBlobBlock c.args.rec.now (length c.args.blob.now) place = (i, c.loop-i-test.true, refl) in
    record {
      counted = counted_then _ _ _ so_far.counted c.write.ensures.areas;
      begins = Begins-then i 1 _ _ _ so_far.begins (one_begun _ _ _ _ _ _ _ _ c.write.ensures.count c.write.ensures.begun c.write.ensures.counts c.write.ensures.cause.later);
      first = λ t.
          let whole = IsImage-reading g.D.Disk t disk.reads_now disk.counts_now disk.whole c.loop-i.disk in
          let within : place < length (g.D.Disk.reading c.loop-i.disk) = (let a = c.requires.places.within i c.loop-i-test.true in let b = so_far.begins.count in let e = whole.len in omega (arith, a, b, e)) in
          blob_more c.args.rec.now c.args.blob.now i _ _ c.requires.places.different c.loop-i-test.true within (so_far.first t) (c.in_ok-write.ensures.block t) (c.write.ensures.reading t);
      same = λ t. SameOutside-trans _ _ _ _ (so_far.same t) (SameOutside-one _ place _ _ inside (c.write.ensures.reading t));
      quiet = λ t. Quiet-write (told g.D.Disk t disk.counts_now disk.only_now) inside (so_far.quiet t) (c.write.ensures.stop t) (c.write.ensures.time t);
    }
