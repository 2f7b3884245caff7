use Rattle.std.proofs.Common.{refl}
use Rattle.kernel_laws.proofs.Opening.{meant_unwritten}
use Rattle.kernel_laws.proofs.Starting.{empty_names, empty_rules}
use Rattle.kernel_laws.proofs.begins_law.Goals as goal

pub returns-clause-meant : goal.returns-clause-meant
returns-clause-meant c b image means rules names small = record {
  script = rules;
  names = names;
  sound = c.meant_state_law.ensures b.supply image b.state means;
  unwritten = meant_unwritten b.supply image b.state means;
  small = small;
}

pub returns-clause-empty : goal.returns-clause-empty
returns-clause-empty c steps w low high = (empty_rules steps low high, empty_names steps w)

pub returns-clause-no_births : goal.returns-clause-no_births
returns-clause-no_births c b steps = refl
