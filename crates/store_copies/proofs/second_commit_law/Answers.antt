use Rattle.store_copies.proofs.Copies.{after}
use Rattle.store_copies.proofs.second_commit_law.Goals as goal

pub returns : goal.returns
returns c s name fresh v w count ks a b m h r n o apart = after s name fresh v w count ks a m h r n b o apart
