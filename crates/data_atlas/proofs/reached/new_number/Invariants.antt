use Rattle.std.proofs.Common.{◌≡◌, ℕ, ◌<◌, true}
use Rattle.data_atlas_facts.specs.model_circles.Marks.{is_marked}
use Rattle.data_atlas_facts.specs.Reached.{edges_in}
use Rattle.data_atlas.proofs.reached.new_number.Given as goal

abbrev pub invariant-loop-x : goal.invariant-loop-x
invariant-loop-x l = (k y : ℕ) → k < l.x → is_marked l.marks k ≡ true → 0 < edges_in l.edges k y → is_marked l.marks y ≡ true
