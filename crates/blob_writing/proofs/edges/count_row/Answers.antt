use Rattle.std.proofs.Common.{◌≡◌, ◌∙◌, ℕ, List, [], ◌∷◌, length, sym, ap, arith, length-append}
use Rattle.data_atlas.specs.data_atlas_facts.Directory.{edges_of}
use Rattle.blob_grammar.specs.Spelling.{Counted}
use Rattle.blob_facts.specs.Pieces.{row_edges}
use Rattle.blob_facts.proofs.RowsPut.{row_none, row_some, row_start}
use Rattle.blob_writing.proofs.edges.count_row.Goals as goal
use Rattle.blob_writing.proofs.edges.count_row.Goals.{then-count-gt0, else-count-gt0}

pub loop-to-init : goal.loop-to-init
loop-to-init c = record { number = ap (λ (l : List Counted). length l) (sym (row_start (edges_of c.args.atlas.now) c.args.from)); few = omega arith }

pub loop-to-preserved : goal.loop-to-preserved
loop-to-preserved c =
    let edges = edges_of c.args.atlas.now in
    let is : c.count.result ≡ edges c.args.from c.loop-to.to = c.count.ensures.count ∙ ap (λ (x : ℕ). edges x c.of-in-loop-to.result) c.of.ensures ∙ ap (edges c.args.from) c.of-in-loop-to.ensures in
    elim c.if-count-gt0.branch [
      | then-count-gt0 w ↦
          let more = ap (λ (l : List Counted). length l) (row_some edges c.args.from c.loop-to.to c.count.result is w.if-count-gt0.true)
          ∙ length-append (row_edges edges c.args.from c.loop-to.to) (record { from = c.args.from; to = c.loop-to.to; count = c.count.result } ∷ []) in
          record { number = omega (arith, more, w.number-is, c.loop-to.invariant.number); few = omega (arith, w.number-is, c.loop-to.invariant.few) }
      | else-count-gt0 w ↦
          let same = ap (λ (l : List Counted). length l) (row_none edges c.args.from c.loop-to.to c.count.result is w.if-count-gt0.false) in
          record { number = omega (arith, same, w.number-is, c.loop-to.invariant.number); few = omega (arith, w.number-is, c.loop-to.invariant.few) }
    ]
