-- A read after interrupted ones is a take.
use Rattle.std.proofs.Common.{arith}
use Rattle.edge_streams.proofs.Streams.{Takes-from_read}
use Rattle.edge_streams.proofs.standard.read_some.Goals as goal

pub returns-in-Ok-clause-bytes : goal.returns-in-Ok-clause-bytes
returns-in-Ok-clause-bytes g c =
    Takes-from_read _ _ _ _ _ c.in-Ok.ensures.bound.0 (omega arith) c.loop.invariant c.in-Ok.ensures.bytes.0 c.in-Ok.ensures.bytes.1
