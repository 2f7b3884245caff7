use Rattle.std.proofs.Common.{◌∙◌, List, length, sym, ap, arith, length-append}
use Rattle.data_atlas.specs.data_atlas_facts.Directory.{edges_of}
use Rattle.blob_grammar.specs.Spelling.{Counted}
use Rattle.blob_facts.specs.Pieces.{row_edges, rows_edges}
use Rattle.blob_facts.proofs.RowsPut.{rows_next, rows_start}
use Rattle.blob_writing.proofs.edges.count_rows.Goals as goal

pub loop-from-init : goal.loop-from-init
loop-from-init c = record { number = ap (λ (l : List Counted). length l) (sym (rows_start (edges_of c.args.atlas.now) 41)); few = omega arith }

pub loop-from-preserved : goal.loop-from-preserved
loop-from-preserved c =
    let edges = edges_of c.args.atlas.now in
    let more = ap (λ (l : List Counted). length l) (rows_next edges c.loop-from.from 41) ∙ length-append (rows_edges edges c.loop-from.from 41) (row_edges edges c.loop-from.from 41) in
    record {
      number = omega (arith, more, c.from-number.ensures, c.count_row.ensures.number, c.loop-from.invariant.number);
      few = omega (arith, c.from-number.ensures, c.count_row.ensures.most, c.loop-from.invariant.few);
    }
