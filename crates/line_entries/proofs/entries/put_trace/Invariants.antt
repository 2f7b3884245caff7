-- The lines of the entries so far are put.
use Rattle.std.proofs.Common.{◌≤◌, take}
use Rattle.std.specs.Io.KnownBytes.{Appends}
use Rattle.line_entries.specs.Entries.{trace_of}
use Rattle.line_entries.proofs.entries.put_trace.Given as goal

abbrev pub invariant-loop-entry : goal.invariant-loop-entry
invariant-loop-entry g l = record {
  put : Appends (g.W.Sink.held l.initial.sink) (g.W.Sink.held l.sink) (trace_of (g.N.Names.atlas l.names) (take l.entry-index l.entries));
  count : g.W.Sink.faults l.initial.sink ≤ g.W.Sink.faults l.sink;
}
