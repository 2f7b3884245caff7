use Rattle.std.proofs.Common.{◌≡◌, ◌+◌, ◌++◌, ◌∙◌, ℕ, List, [], ◌∷◌, length, sym, ap, arith}
use Rattle.data_atlas.specs.data_atlas_facts.Directory.{edges_of}
use Rattle.blob_grammar.specs.Spelling.{Counted, edge_bytes}
use Rattle.std.specs.List.{flat_map}
use Rattle.blob_facts.specs.Pieces.{row_edges}
use Rattle.blob_facts.proofs.Room.{grown}
use Rattle.blob_facts.proofs.RowsPut.{edges_more, no_row, row_none, row_some}
use Rattle.blob_writing.proofs.edges.put_row.Goals as goal
use Rattle.blob_writing.proofs.edges.put_row.Goals.{then-count-gt0, else-count-gt0}

pub loop-to-init : goal.loop-to-init
loop-to-init c = record { row = no_row (edges_of c.args.atlas.now) c.args.from c.args.blob.now; long = omega arith }

pub loop-to-preserved : goal.loop-to-preserved
loop-to-preserved c =
    let edges = edges_of c.args.atlas.now in
    let is : c.count-count.result ≡ edges c.args.from c.loop-to.to = c.count-count.ensures.count ∙ ap (λ (x : ℕ). edges x c.of-in-loop-to.result) c.of.ensures ∙ ap (edges c.args.from) c.of-in-loop-to.ensures in
    let so_far = row_edges edges c.args.from c.loop-to.to in
    elim c.if-count-gt0.branch [
      | then-count-gt0 w ↦
          let new : Counted = record { from = c.args.from; to = c.loop-to.to; count = c.count-count.result } in
          let longer = grown c.loop-to.blob (edge_bytes new) w.put_edge.new.blob w.put_edge.ensures in
          let same = ap (λ (l : List ℕ). length l) w.blob-is in
          record {
            row = w.blob-is ∙ edges_more so_far (new ∷ []) (row_edges edges c.args.from (c.loop-to.to + 1)) c.args.blob.now c.loop-to.blob w.put_edge.new.blob
                (row_some edges c.args.from c.loop-to.to c.count-count.result is w.if-count-gt0.true) c.loop-to.invariant.row w.put_edge.ensures;
            long = omega (arith, longer, same, c.loop-to.invariant.long);
          }
      | else-count-gt0 w ↦
          let same = ap (λ (l : List ℕ). length l) w.blob-is in
          record {
            row = w.blob-is ∙ c.loop-to.invariant.row ∙ ap (λ (l : List Counted). c.args.blob.now ++ flat_map edge_bytes l) (sym (row_none edges c.args.from c.loop-to.to c.count-count.result is w.if-count-gt0.false));
            long = omega (arith, same, c.loop-to.invariant.long);
          }
    ]
