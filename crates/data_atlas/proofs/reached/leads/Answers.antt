-- Each turn marks one number more that is reached; where nothing new is marked, all that is reached is.
use Rattle.std.proofs.Common.{ℕ, List, true, false, sym, ◌∙◌, arith, length-set, get_or-set_same}
use Rattle.std.specs.Prelude.{replicate}
use Rattle.base_types.specs.Edges.{IsPath}
use Rattle.std.proofs.lemmas.Bool.{OnFalse_from, false≢true}
use Rattle.data_atlas_facts.specs.model_circles.Marks.{is_marked}
use Rattle.data_atlas_facts.proofs.model_circles_lemmas.Marks.{one_marked, unmarked_less, still_marked, reached_more, closed_path}
use Rattle.data_atlas_facts.specs.Reached.{edges_in}
use Rattle.data_atlas.proofs.reached.leads.Goals as goal

pub loop-y-init : goal.loop-y-init
loop-y-init c = record {
  all = length-set (replicate 41 false) c.args.from true;
  first = get_or-set_same (replicate 41 false) c.args.from true false c.requires.from;
  reached = one_marked (edges_in c.args.edges.now) c.args.from 41;
}

pub loop-y-smaller : goal.loop-y-smaller
loop-y-smaller c = let new = c.in-Some.ensures.some in unmarked_less c.loop-y.marks c.in-Some.y (omega (arith, new.0, c.loop-y.invariant.all)) new.1

pub loop-y-preserved : goal.loop-y-preserved
loop-y-preserved c =
    let new = c.in-Some.ensures.some in
    record {
      all = length-set c.loop-y.marks c.in-Some.y true ∙ c.loop-y.invariant.all;
      first = still_marked c.loop-y.marks c.args.from c.in-Some.y c.loop-y.invariant.first;
      reached = reached_more (edges_in c.args.edges.now) c.args.from c.loop-y.marks new.2.0 c.in-Some.y c.loop-y.invariant.reached new.2.1 new.2.2;
    }

pub returns-clause-none : goal.returns-clause-none
returns-clause-none c =
    OnFalse_from (is_marked c.loop-y.marks c.args.to) ((path : List ℕ) → IsPath (edges_in c.args.edges.now) c.args.from path c.args.to → ⊥) (λ e path p. false≢true (sym e ∙ closed_path (edges_in c.args.edges.now) c.loop-y.marks c.in_default.ensures.none c.args.from c.args.to path c.loop-y.invariant.first p))
