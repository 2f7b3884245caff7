use Rattle.kernel_laws.proofs.Numbers.{epoch_small, stamp_small, version_small}
use Rattle.kernel_laws.proofs.small_numbers_law.Goals as goal

pub returns-clause-versions : goal.returns-clause-versions
returns-clause-versions c b es x right legal = version_small b es right legal x

pub returns-clause-stamps : goal.returns-clause-stamps
returns-clause-stamps c b es x y right legal = stamp_small b es right legal x y

pub returns-clause-epoch : goal.returns-clause-epoch
returns-clause-epoch c b es n right legal low = epoch_small b es right legal n low
