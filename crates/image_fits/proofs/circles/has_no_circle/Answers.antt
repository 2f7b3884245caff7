-- Each turn marks one more; where none is left to be marked, all are exactly where no path comes back.
use Rattle.std.proofs.Common.{Bool, true, refl, sym, ◌∙◌, subst, arith, length-set}
use Rattle.std.specs.Prelude.{◌↔◌, IsTrue}
use Rattle.model_circles.proofs.Marks.{unmarked_less}
use Rattle.data_atlas.specs.data_atlas_facts.Directory.{edges_of}
use Rattle.act_alone.specs.model_kernel.Soundness.{HasNoCircle}
use Rattle.image_fit_facts.proofs.Circling.{free_at_first, free_more, marks_tell}
use Rattle.image_fits.proofs.circles.has_no_circle.Goals as goal

pub loop-container-init : goal.loop-container-init
loop-container-init c = record { all = refl; free = free_at_first (edges_of c.args.atlas.now) 41 }

pub loop-container-smaller : goal.loop-container-smaller
loop-container-smaller c =
    let leaf = c.in-Some.ensures.some in
    unmarked_less c.loop-container.marks c.in-Some.container (let lt = leaf.is_container in let e = c.loop-container.invariant.all in omega (arith, lt, e)) leaf.unmarked

pub loop-container-preserved : goal.loop-container-preserved
loop-container-preserved c = record {
  all = length-set c.loop-container.marks c.in-Some.container true ∙ c.loop-container.invariant.all;
  free = free_more (edges_of c.args.atlas.now) c.next_leaf.ensures.inside c.loop-container.marks c.in-Some.container c.in-Some.ensures.some c.loop-container.invariant.free;
}

pub returns : goal.returns
returns c =
    let edges = edges_of c.args.atlas.now in
    subst (λ (b : Bool). IsTrue b ↔ HasNoCircle edges) (sym c.all_marked.ensures)
    (marks_tell edges c.loop-container.marks c.next_leaf.ensures.inside c.loop-container.invariant.all c.loop-container.invariant.free c.in_default.ensures.none)
