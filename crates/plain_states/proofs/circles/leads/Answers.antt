use Rattle.std.proofs.Common.{◌≡◌, true, false, find, None, replicate, set, sym, subst, ap, ◌∙◌, arith, length-set, get_or-set_same}
use Rattle.base_types.specs.Edges.{IsPath}
use Rattle.model_sound_runs.specs.model_circles.Marks.{is_marked}
use Rattle.model_sound_runs.proofs.model_circles_lemmas.Marks.{one_marked, still_marked}
use Rattle.plain_states.specs.EdgeLists.{leads_out}
use Rattle.plain_states.specs.Plains.{edges_of}
use Rattle.plain_states.proofs.MarkLemmas.{marks_tell, none_by, way_fewer, way_found, way_marks}
use Rattle.plain_states.proofs.circles.leads.Goals as goal

pub loop-edge-init : goal.loop-edge-init
loop-edge-init c =
    let at = c.number-start.ensures.number in
    record {
      all = length-set (replicate 256 false) c.number-start.result true;
      first = ap (λ n. is_marked (set (replicate 256 false) c.number-start.result true) n) (sym at) ∙ get_or-set_same (replicate 256 false) c.number-start.result true false (omega arith);
      reached = λ y m. let p = one_marked (edges_of c.args.edges.now) c.number-start.result 256 y m in (p.0, subst (λ x. IsPath (edges_of c.args.edges.now) x p.0 y) at p.1);
    }

pub loop-edge-smaller : goal.loop-edge-smaller
loop-edge-smaller c =
    let way = way_found c.args.edges.now c.loop-edge.marks c.in-Some.edge c.requires.edges.edges.counts (sym c.way_out.ensures ∙ c.in-Some.is) in
    way_fewer c.args.edges.now c.loop-edge.marks c.in-Some.edge way (omega (arith, c.loop-edge.invariant.all))

pub loop-edge-preserved : goal.loop-edge-preserved
loop-edge-preserved c =
    let way = way_found c.args.edges.now c.loop-edge.marks c.in-Some.edge c.requires.edges.edges.counts (sym c.way_out.ensures ∙ c.in-Some.is) in
    record {
      all = length-set c.loop-edge.marks c.in-Some.edge.to true ∙ c.loop-edge.invariant.all;
      first = still_marked c.loop-edge.marks c.args.from c.in-Some.edge.to c.loop-edge.invariant.first;
      reached = way_marks c.args.edges.now c.loop-edge.marks c.args.from c.in-Some.edge way c.loop-edge.invariant.reached;
    }

pub returns : goal.returns
returns c =
    let none : find (leads_out c.loop-edge.marks) c.args.edges.now ≡ None = sym c.way_out.ensures ∙ none_by c.way_out.result c.in_default.not-Some in
    ap (is_marked c.loop-edge.marks) c.number-goal.ensures.number
    ∙ marks_tell c.args.edges.now c.loop-edge.marks c.args.from c.args.to c.requires.edges c.loop-edge.invariant.first c.loop-edge.invariant.reached none
