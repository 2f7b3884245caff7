use Rattle.kernel_laws.proofs.Somes.{image_some}
use Rattle.kernel_laws.proofs.some_commits_law.Goals as goal

pub returns : goal.returns
returns c b es fs count n more marks now t image right legal all enough holds st = image_some b es fs count n more marks now t image right legal all enough holds st
