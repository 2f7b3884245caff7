use Rattle.kernel_invariant.proofs.Leaving.{all_held, image_of, image_stays}
use Rattle.kernel_invariant.proofs.left_image_law.Goals as goal

pub returns-clause-stored : goal.returns-clause-stored
returns-clause-stored c b es count k marks now t image right legal holds st = image_of b es right legal count marks now t image k holds st

pub returns-clause-all : goal.returns-clause-all
returns-clause-all c b es marks now t k low high = all_held b es marks now t k low high

pub returns-clause-stays : goal.returns-clause-stays
returns-clause-stays c b es e marks m now t image legal each later i = image_stays b es e legal marks m now t each later image i
