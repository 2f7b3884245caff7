use Rattle.std.proofs.Common.{◌+◌, arith}
use Rattle.data_atlas.specs.data_atlas_facts.Directory.{edges_of}
use Rattle.blob_facts.specs.Pieces.{row_edges, rows_edges}
use Rattle.blob_facts.proofs.RowsPut.{edges_more, no_rows, rows_next}
use Rattle.blob_writing.proofs.edges.put_rows.Goals as goal

pub loop-from-init : goal.loop-from-init
loop-from-init c = record { rows = no_rows (edges_of c.args.atlas.now) 41 c.args.blob.now; long = omega arith }

pub loop-from-preserved : goal.loop-from-preserved
loop-from-preserved c =
    let edges = edges_of c.args.atlas.now in
    record {
      rows = edges_more (rows_edges edges c.loop-from.from 41) (row_edges edges c.loop-from.from 41) (rows_edges edges (c.loop-from.from + 1) 41) c.args.blob.now
          c.loop-from.blob c.put_row.new.blob (rows_next edges c.loop-from.from 41) c.loop-from.invariant.rows c.put_row.ensures.row;
      long = omega (arith, c.put_row.ensures.most, c.loop-from.invariant.long);
    }
