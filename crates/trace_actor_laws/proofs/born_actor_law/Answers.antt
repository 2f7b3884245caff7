use Rattle.plain_states.specs.model_kernel.Histories.{run_after, start_run}
use Rattle.trace_actor_laws.proofs.Knowing.{actor_born, known_run, names_left, newborn_born}
use Rattle.trace_actor_laws.proofs.born_actor_law.Goals as goal

pub returns-clause-born : goal.returns-clause-born
returns-clause-born c s policy script w es e rules kinds sound legal m other =
    let k = known_run s policy script rules w es kinds sound legal in
    actor_born s policy script rules (run_after s script (start_run w) es) e k.0 k.1 m other

pub returns-clause-names : goal.returns-clause-names
returns-clause-names c s policy script w es e rules kinds sound legal m =
    let k = known_run s policy script rules w es kinds sound legal in
    names_left s policy script rules (run_after s script (start_run w) es) e k.0 m

pub returns-clause-newborn : goal.returns-clause-newborn
returns-clause-newborn c s policy script w es e rules m is = newborn_born s policy script rules (run_after s script (start_run w) es) e is m
