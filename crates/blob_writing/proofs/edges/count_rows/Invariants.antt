use Rattle.std.proofs.Common.{◌≡◌, ◌≤◌, ◌*◌, length}
use Rattle.data_atlas.specs.data_atlas_facts.Directory.{edges_of}
use Rattle.blob_facts.specs.Pieces.{rows_edges}
use Rattle.blob_writing.proofs.edges.count_rows.Given as goal

abbrev pub invariant-loop-from : goal.invariant-loop-from
invariant-loop-from l = record {
  number : l.number ≡ length (rows_edges (edges_of l.atlas) l.from 41);
  few : l.number ≤ l.from * 41;
}
