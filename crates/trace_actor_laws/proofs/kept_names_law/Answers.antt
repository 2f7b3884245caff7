use Rattle.model_sound_states.proofs.model_sound_runs_lemmas.Naming.{step_keeps}
use Rattle.trace_actor_laws.proofs.kept_names_law.Goals as goal

pub returns : goal.returns
returns c s l w r sound is = step_keeps s l w r sound is
