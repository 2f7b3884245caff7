use Rattle.data_blocks.proofs.BitLemmas.{ordered}
use Rattle.data_blocks.proofs.Pool.free.Goals as goal

pub returns-clause-ordered : goal.returns-clause-ordered
returns-clause-ordered c = rw (← c.self.view_is) (ordered _ _ _ _ _ c.self.invariant)
