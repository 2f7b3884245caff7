-- The lines of the slots so far are put.
use Rattle.std.proofs.Common.{◌≤◌}
use Rattle.std.specs.Io.KnownBytes.{Appends}
use Rattle.std.specs.List.{flat_map}
use Rattle.base_types.specs.Edges.{upto}
use Rattle.plain_states.specs.model_kernel.Words.{cap_at}
use Rattle.plain_show.specs.Show.{cap_line}
use Rattle.plain_show.proofs.lines.put_caps.Given as goal

abbrev pub invariant-loop-slot : goal.invariant-loop-slot
invariant-loop-slot g l = record {
  put : Appends (g.W.Sink.held l.initial.sink) (g.W.Sink.held l.sink) (flat_map (λ slot. cap_line (g.N.Names.atlas l.names) l.entity slot (cap_at l.caps slot)) (upto l.slot));
  count : g.W.Sink.faults l.initial.sink ≤ g.W.Sink.faults l.sink;
}
