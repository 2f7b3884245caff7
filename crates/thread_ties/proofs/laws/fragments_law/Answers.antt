use Rattle.thread_ties.proofs.Sharing.{get_fragment}
use Rattle.thread_ties.proofs.laws.fragments_law.Goals as goal

pub returns : goal.returns
returns g c = get_fragment
