use Rattle.model_copies.proofs.Copying.{need}
use Rattle.model_copies.proofs.copy_commits_law.Goals as goal

pub returns : goal.returns
returns c = need
