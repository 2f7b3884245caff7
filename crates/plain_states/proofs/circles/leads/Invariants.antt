use Rattle.std.proofs.Common.{◌≡◌, true, length}
use Rattle.model_sound_runs.specs.model_circles.Marks.{is_marked}
use Rattle.model_sound_runs.proofs.model_circles_lemmas.Marks.{AllReached, unmarked}
use Rattle.plain_states.specs.Plains.{edges_of}
use Rattle.plain_states.proofs.circles.leads.Given as goal

abbrev pub invariant-loop-edge : goal.invariant-loop-edge
invariant-loop-edge l = record {
  all : length l.marks ≡ 256;
  first : is_marked l.marks l.fn.from ≡ true;
  reached : AllReached (edges_of l.edges) l.fn.from l.marks;
}

abbrev pub decreases-loop-edge : goal.decreases-loop-edge
decreases-loop-edge l = unmarked l.marks
