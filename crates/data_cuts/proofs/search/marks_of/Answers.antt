use Rattle.std.proofs.Common.{false, arith}
use Rattle.data_stamps.proofs.Blanks.{get_or-replicate_all}
use Rattle.data_cuts.proofs.search.marks_of.Goals as goal

pub loop-x-init : goal.loop-x-init
loop-x-init c = record { done = λ k lt. absurd (omega arith); rest = λ k le. get_or-replicate_all 64 k false }
