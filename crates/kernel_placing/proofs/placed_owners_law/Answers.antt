use Rattle.kernel_placing.proofs.Owners.{owned_with}
use Rattle.kernel_placing.proofs.placed_owners_law.Goals as goal

pub returns : goal.returns
returns g c = λ many table old mid tables entity takes unset owned logged count. owned_with g.D.Disk many table old mid takes tables entity unset owned logged count
