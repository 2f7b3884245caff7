use Rattle.node_lending.proofs.Lent.{as_lent, kept_with}
use Rattle.node_lending.proofs.lending_law.Goals as goal

pub returns-clause-lent : goal.returns-clause-lent
returns-clause-lent g c cs noted old new stop goes steady is = as_lent g.D.Disk cs noted old new goes steady c.going_law.ensures.reads c.going_law.ensures.stop stop is

pub returns-clause-kept : goal.returns-clause-kept
returns-clause-kept g c cs noted old new before stop goes k going = kept_with g.D.Disk cs noted old new goes before stop k going
