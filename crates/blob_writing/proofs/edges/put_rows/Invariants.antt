use Rattle.std.proofs.Common.{◌≡◌, ◌≤◌, ◌+◌, ◌*◌, ◌++◌, length}
use Rattle.std.specs.List.{flat_map}
use Rattle.data_atlas.specs.data_atlas_facts.Directory.{edges_of}
use Rattle.blob_grammar.specs.Spelling.{edge_bytes}
use Rattle.blob_facts.specs.Pieces.{rows_edges}
use Rattle.blob_writing.proofs.edges.put_rows.Given as goal

abbrev pub invariant-loop-from : goal.invariant-loop-from
invariant-loop-from l = record {
  rows : l.blob ≡ l.initial.blob ++ flat_map edge_bytes (rows_edges (edges_of l.atlas) l.from 41);
  long : length l.blob ≤ length l.initial.blob + l.from * 123;
}
