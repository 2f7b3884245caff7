use Rattle.node_looks.proofs.Looks.{next_piece}
use Rattle.node_looks.proofs.following.commits_behind_law.Goals as goal

pub returns-clause-next : goal.returns-clause-next
returns-clause-next c b es new next = next_piece b es new next
