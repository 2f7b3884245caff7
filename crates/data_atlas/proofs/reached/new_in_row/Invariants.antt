use Rattle.std.proofs.Common.{◌≡◌, ℕ, ◌<◌, true, get_or}
use Rattle.data_atlas_facts.specs.model_circles.Marks.{is_marked}
use Rattle.data_atlas.proofs.reached.new_in_row.Given as goal

abbrev pub invariant-loop-y : goal.invariant-loop-y
invariant-loop-y l = (k : ℕ) → k < l.y → 0 < get_or l.row k 0 → is_marked l.marks k ≡ true
