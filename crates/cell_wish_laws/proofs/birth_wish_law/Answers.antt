use Rattle.cell_wish_laws.proofs.Recorded.{birth_wish}
use Rattle.cell_wish_laws.proofs.birth_wish_law.Goals as goal

pub returns : goal.returns
returns c s script r e steps before after event has takes = birth_wish s script r e steps before after event has takes
