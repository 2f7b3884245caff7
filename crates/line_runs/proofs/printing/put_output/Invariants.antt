-- The lines of the entries so far are put.
use Rattle.std.proofs.Common.{◌≤◌, take}
use Rattle.std.specs.Io.KnownBytes.{Appends}
use Rattle.line_text.specs.model_kernel.Output.{output_of}
use Rattle.act_calls.specs.Calls.{atlas_state}
use Rattle.line_runs.proofs.printing.put_output.Given as goal

abbrev pub invariant-loop-entry : goal.invariant-loop-entry
invariant-loop-entry g l = record {
  put : Appends (g.W.Sink.held l.initial.sink) (g.W.Sink.held l.sink) (output_of (atlas_state l.atlas) (take l.entry-index l.history));
  count : g.W.Sink.faults l.initial.sink ≤ g.W.Sink.faults l.sink;
}
