use Rattle.store_copies.proofs.Copies.{before}
use Rattle.store_copies.proofs.first_commit_law.Goals as goal

pub returns : goal.returns
returns c s name fresh v w count ks a m h r n apart = before s name fresh v w count ks a m h r n apart
