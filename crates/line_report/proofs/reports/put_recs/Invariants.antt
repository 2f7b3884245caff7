-- The lines of the records so far are put.
use Rattle.std.proofs.Common.{◌≤◌, take}
use Rattle.std.specs.Io.KnownBytes.{Appends}
use Rattle.std.specs.List.{enumerate_from, flat_map}
use Rattle.line_report.specs.Reports.{rec_line}
use Rattle.line_report.proofs.reports.put_recs.Given as goal

abbrev pub invariant-loop-slot : goal.invariant-loop-slot
invariant-loop-slot g l = record {
  put : Appends (g.W.Sink.held l.initial.sink) (g.W.Sink.held l.sink) (flat_map (rec_line l.cut.0) (take l.slot (enumerate_from 0 l.recs)));
  count : g.W.Sink.faults l.initial.sink ≤ g.W.Sink.faults l.sink;
}
