use Rattle.data_cut_facts.proofs.Lowering.{ends}
use Rattle.data_cut_facts.proofs.search_law.Goals as goal

pub returns : goal.returns
returns c = ends
