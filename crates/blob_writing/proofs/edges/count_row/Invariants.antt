use Rattle.std.proofs.Common.{◌≡◌, ◌≤◌, length}
use Rattle.data_atlas.specs.data_atlas_facts.Directory.{edges_of}
use Rattle.blob_facts.specs.Pieces.{row_edges}
use Rattle.blob_writing.proofs.edges.count_row.Given as goal

abbrev pub invariant-loop-to : goal.invariant-loop-to
invariant-loop-to l = record {
  number : l.number ≡ length (row_edges (edges_of l.atlas) l.from l.to);
  few : l.number ≤ l.to;
}
