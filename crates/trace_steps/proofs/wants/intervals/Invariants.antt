use Rattle.std.proofs.Common.{◌≡◌, ℕ, ◌<◌, slice_index}
use Rattle.plain_states.specs.model_kernel.Histories.{every_of}
use Rattle.plain_states.specs.model_kernel.State.{Supply}
use Rattle.plain_states.specs.Plains.{cells_of}
use Rattle.trace_steps.proofs.wants.intervals.Given as goal

abbrev pub invariant-loop-x : goal.invariant-loop-x
invariant-loop-x l = (s : Supply) (k : ℕ) → k < l.x → every_of (cells_of s l.state k) ≡ slice_index l.every-items k
