use Rattle.std.proofs.Common.{◌≡◌, ◌++◌, take, drop}
use Rattle.model_kernel.specs.Outcomes.{insert_private}
use Rattle.model_acts.proofs.mappings.place_of_private.Given as goal

abbrev pub invariant-loop-place : goal.invariant-loop-place
invariant-loop-place l = insert_private l.new l.privates ≡ take l.place l.privates ++ insert_private l.new (drop l.place l.privates)
