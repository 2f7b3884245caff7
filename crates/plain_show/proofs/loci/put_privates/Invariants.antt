-- The lines of the private regions so far are put.
use Rattle.std.proofs.Common.{◌≤◌, take}
use Rattle.std.specs.Io.KnownBytes.{Appends}
use Rattle.std.specs.List.{flat_map}
use Rattle.plain_show.specs.Show.{private_line}
use Rattle.plain_show.proofs.loci.put_privates.Given as goal

abbrev pub invariant-loop-p : goal.invariant-loop-p
invariant-loop-p g l = record {
  put : Appends (g.W.Sink.held l.initial.sink) (g.W.Sink.held l.sink) (flat_map (private_line (g.N.Names.atlas l.names) l.entity) (take l.p-index l.l.privates.items));
  count : g.W.Sink.faults l.initial.sink ≤ g.W.Sink.faults l.sink;
}
