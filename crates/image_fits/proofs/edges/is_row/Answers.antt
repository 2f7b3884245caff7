use Rattle.std.proofs.Common.{refl, sym, ap, ◌∙◌, subst, List, arith}
use Rattle.data_atlas.specs.data_atlas_facts.Directory.{edges_of}
use Rattle.base_types.specs.declared.capabilities.Region.{Region}
use Rattle.std.proofs.lemmas.Bool.{false≢true}
use Rattle.image_fit_facts.specs.Edges.{IsRow, count_onto}
use Rattle.image_fit_facts.proofs.Tallies.{row_by}
use Rattle.image_fits.proofs.edges.is_row.Goals as goal

pub returns-then-count-counts-clause-row : goal.returns-then-count-counts-clause-row
returns-then-count-counts-clause-row c = (
  λ e. absurd (false≢true e),
  λ row. absurd (c.if-count-counts.true (c.count.ensures.count ∙ (ap (edges_of c.args.atlas.now c.args.from) c.of.ensures
      ∙ (row c.loop-to.to ∙ (sym (ap (λ rs. count_onto rs c.loop-to.to) c.regions_of.ensures.regions) ∙ sym (c.tally-counts.ensures.counts c.loop-to.to)))))),
)

pub returns-clause-row : goal.returns-clause-row
returns-clause-row c = (
  λ e. subst (λ (rs : List Region). IsRow (edges_of c.args.atlas.now) c.args.from rs) c.regions_of.ensures.regions
      (row_by (edges_of c.args.atlas.now) c.args.from c.tally-counts.result c.regions_of.result.now (c.loop-to.invariant.inside (omega arith))
      c.tally-counts.ensures.all c.tally-counts.ensures.counts (λ y lt. c.loop-to.invariant.row y (omega arith))),
  λ row. refl,
)
