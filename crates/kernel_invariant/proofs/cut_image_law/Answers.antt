use Rattle.kernel_invariant.proofs.Cutting.{cut_meant}
use Rattle.kernel_invariant.proofs.cut_image_law.Goals as goal

pub returns : goal.returns
returns c b es count k image right legal enough stores = cut_meant b es count k image right legal enough stores
