use Rattle.store_commit.proofs.Agreeing.{are_agreed}
use Rattle.store_commit.proofs.laws.agreed_law.Goals as goal

pub returns : goal.returns
returns c = are_agreed
