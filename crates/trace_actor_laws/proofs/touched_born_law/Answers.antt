use Rattle.plain_states.specs.model_kernel.Histories.{run_after, start_run}
use Rattle.trace_actor_laws.proofs.Knowing.{known_run, touched_left}
use Rattle.trace_actor_laws.proofs.touched_born_law.Goals as goal

pub returns : goal.returns
returns c s policy script w es e rules kinds sound legal m =
    let k = known_run s policy script rules w es kinds sound legal in
    touched_left s policy script rules (run_after s script (start_run w) es) e k.0 m
