use Rattle.thread_ties.proofs.Holding.{are_same, one_authority, one_each}
use Rattle.thread_ties.proofs.laws.rule_law.Goals as goal

pub returns-clause-one_authority : goal.returns-clause-one_authority
returns-clause-one_authority g c = one_authority

pub returns-clause-one_each : goal.returns-clause-one_each
returns-clause-one_each g c = one_each

pub returns-clause-same : goal.returns-clause-same
returns-clause-same g c = are_same
