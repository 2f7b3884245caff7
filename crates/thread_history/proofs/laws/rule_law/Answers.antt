use Rattle.thread_history.proofs.Quiet.{known_hold, one_chronicle, quiet, shares_hold, told_hold}
use Rattle.thread_history.proofs.laws.rule_law.Goals as goal

pub returns-clause-one_chronicle : goal.returns-clause-one_chronicle
returns-clause-one_chronicle g c = one_chronicle g.T.Item.concerns

pub returns-clause-no_later_item : goal.returns-clause-no_later_item
returns-clause-no_later_item g c = quiet g.T.Item.concerns

pub returns-clause-shares : goal.returns-clause-shares
returns-clause-shares g c = shares_hold g.T.Item.concerns

pub returns-clause-known : goal.returns-clause-known
returns-clause-known g c = known_hold g.T.Item.concerns

pub returns-clause-told : goal.returns-clause-told
returns-clause-told g c = told_hold g.T.Item.concerns
