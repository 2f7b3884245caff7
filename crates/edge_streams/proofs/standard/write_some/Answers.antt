-- A write after interrupted ones appends what it took.
use Rattle.edge_streams.proofs.Streams.{Appends-from_kept}
use Rattle.edge_streams.proofs.standard.write_some.Goals as goal

pub returns-in-Ok-clause-ok : goal.returns-in-Ok-clause-ok
returns-in-Ok-clause-ok g c = Appends-from_kept _ _ _ _ c.loop.invariant c.in-Ok.ensures.bytes
