use Rattle.std.proofs.Common.{◌≡◌, true, length}
use Rattle.data_atlas_facts.specs.model_circles.Marks.{is_marked}
use Rattle.data_atlas_facts.proofs.model_circles_lemmas.Marks.{AllReached, unmarked}
use Rattle.data_atlas_facts.specs.Reached.{edges_in}
use Rattle.data_atlas.proofs.reached.leads.Given as goal

abbrev pub invariant-loop-y : goal.invariant-loop-y
invariant-loop-y l = record {
  all : length l.marks ≡ 41;
  first : is_marked l.marks l.from ≡ true;
  reached : AllReached (edges_in l.edges) l.from l.marks;
}

abbrev pub decreases-loop-y : goal.decreases-loop-y
decreases-loop-y l = unmarked l.marks
