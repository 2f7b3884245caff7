use Rattle.std.proofs.Common.{◌≡◌, ◌≤◌, ◌+◌, ◌*◌, ◌++◌, length}
use Rattle.std.specs.List.{flat_map}
use Rattle.data_atlas.specs.data_atlas_facts.Directory.{edges_of}
use Rattle.blob_grammar.specs.Spelling.{edge_bytes}
use Rattle.blob_facts.specs.Pieces.{row_edges}
use Rattle.blob_writing.proofs.edges.put_row.Given as goal

abbrev pub invariant-loop-to : goal.invariant-loop-to
invariant-loop-to l = record {
  row : l.blob ≡ l.initial.blob ++ flat_map edge_bytes (row_edges (edges_of l.atlas) l.from l.to);
  long : length l.blob ≤ length l.initial.blob + l.to * 3;
}
