use Rattle.store_commit.proofs.Filling.{BlobSoFar}
use Rattle.store_commit.proofs.blobs.write_blob.Given as goal

abbrev pub invariant-loop-i : goal.invariant-loop-i
invariant-loop-i g l =
    let disk = g.D.Disk in
    BlobSoFar disk l.rec l.blob l.i l.fn.areas l.areas l.fn.disk l.disk
