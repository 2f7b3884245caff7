-- Where more bytes come than are allowed, what was taken is what is kept and one piece more.
use Rattle.std.proofs.Common.{◌≡◌, ◌++◌, length, take, arith, length-append, length-take-le}
use Rattle.std.proofs.KnownBytes.{Consumes-trans}
use Rattle.edge_streams.proofs.reading.read_all.Goals as goal

pub returns-then-n-limit-clause-stops : goal.returns-then-n-limit-clause-stops
returns-then-n-limit-clause-stops g c =
    let kept = c.loop-bytes.bytes.items in
    let piece = take c.in_ok-n.n c.take.new.out in
    let size : length piece ≡ c.in_ok-n.n = length-take-le c.in_ok-n.n c.take.new.out c.in_ok-n.ensures.within in
    record {
      taken = kept ++ piece;
      consumed = Consumes-trans _ _ _ _ _ c.loop-bytes.invariant.taken c.in_ok-n.ensures.bytes.0;
      within = omega (arith, length-append kept piece, size, c.in_ok-n.ensures.within);
    }
