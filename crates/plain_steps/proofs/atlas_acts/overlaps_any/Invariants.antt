use Rattle.std.proofs.Common.{◌≡◌, drop}
use Rattle.std.specs.List.{list_any}
use Rattle.model_kernel.specs.Words.{overlaps}
use Rattle.plain_steps.proofs.atlas_acts.overlaps_any.Given as goal

abbrev pub invariant-loop-other : goal.invariant-loop-other
invariant-loop-other l = list_any (overlaps l.region) (drop l.other-index l.regions) ≡ list_any (overlaps l.region) l.regions
