use Rattle.std.proofs.Common.{[], ◌∷◌, ◌++◌}
use Rattle.model_run_rules.proofs.model_kernel_lemmas.StableCuts.{stable_part, stable_versions}
use Rattle.model_sound_states.proofs.model_sound_runs_lemmas.Standing.{legal_below}
use Rattle.model_sound_cuts.proofs.stable_stays_law.Goals as goal

pub returns-clause-versions : goal.returns-clause-versions
returns-clause-versions c s policy script w es e later q x k is g =
    stable_versions s policy script w es e later q k.sound.below (legal_below s policy script k.rules w (es ++ e ∷ []) k.names k.sound.sound k.legal) k.legal is g x

pub returns-clause-events : goal.returns-clause-events
returns-clause-events c s policy script w es e later q k is g =
    stable_part s policy script w es e later q k.sound.below (legal_below s policy script k.rules w (es ++ e ∷ []) k.names k.sound.sound k.legal) k.legal is g
