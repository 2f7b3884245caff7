-- The lines of the loci so far are put.
use Rattle.std.proofs.Common.{◌≤◌, ◌+◌}
use Rattle.std.specs.Io.KnownBytes.{Appends}
use Rattle.std.specs.List.{flat_map}
use Rattle.base_types.specs.Edges.{upto}
use Rattle.plain_states.specs.Plains.{atlas_of, cells_of}
use Rattle.plain_show.specs.Show.{entity_lines}
use Rattle.plain_show.proofs.shows.put_loci.Given as goal

abbrev pub invariant-loop-place : goal.invariant-loop-place
invariant-loop-place g l = record {
  put : Appends (g.W.Sink.held l.initial.sink) (g.W.Sink.held l.sink) (flat_map (λ i. entity_lines g.s (atlas_of l.state.atlas) (cells_of g.s l.state) (i + 41)) (upto l.place));
  count : g.W.Sink.faults l.initial.sink ≤ g.W.Sink.faults l.sink;
}

abbrev pub ghost-put_locus_at : goal.ghost-put_locus_at
ghost-put_locus_at g a = g.s
