-- The lines of the entities so far are put.
use Rattle.std.proofs.Common.{◌≤◌, take}
use Rattle.std.specs.Io.KnownBytes.{Appends}
use Rattle.std.specs.List.{enumerate_from, flat_map}
use Rattle.line_report.specs.Reports.{cut_line}
use Rattle.line_report.proofs.reports.put_cut.Given as goal

abbrev pub invariant-loop-entity : goal.invariant-loop-entity
invariant-loop-entity g l = record {
  put : Appends (g.W.Sink.held l.initial.sink) (g.W.Sink.held l.sink) (flat_map cut_line (take l.entity (enumerate_from 0 l.versions)));
  count : g.W.Sink.faults l.initial.sink ≤ g.W.Sink.faults l.sink;
}
