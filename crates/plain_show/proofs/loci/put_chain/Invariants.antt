-- The lines of the calls so far are put.
use Rattle.std.proofs.Common.{◌≤◌, take}
use Rattle.std.specs.Io.KnownBytes.{Appends}
use Rattle.std.specs.List.{flat_map}
use Rattle.plain_show.specs.Show.{call_line}
use Rattle.plain_show.proofs.loci.put_chain.Given as goal

abbrev pub invariant-loop-call : goal.invariant-loop-call
invariant-loop-call g l = record {
  put : Appends (g.W.Sink.held l.initial.sink) (g.W.Sink.held l.sink) (flat_map (call_line (g.N.Names.atlas l.names) l.entity) (take l.call-index l.l.chain.items));
  count : g.W.Sink.faults l.initial.sink ≤ g.W.Sink.faults l.sink;
}
