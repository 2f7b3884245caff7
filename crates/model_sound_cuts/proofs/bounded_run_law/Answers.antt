use Rattle.model_run_rules.proofs.model_run_laws_lemmas.Few.{at_most_five, at_most_four, four_if_changed}
use Rattle.model_sound_states.proofs.model_sound_runs_lemmas.Kept.{kept_few}
use Rattle.model_sound_states.proofs.model_sound_runs_lemmas.Lengths.{length_bound}
use Rattle.model_sound_states.proofs.model_sound_runs_lemmas.Standing.{legal_below}
use Rattle.model_sound_states.proofs.Empty.{none_beyond}
use Rattle.model_sound_cuts.proofs.bounded_run_law.Goals as goal

pub returns-clause-length : goal.returns-clause-length
returns-clause-length c s policy script w es k = length_bound s policy script k.rules w es k.names k.sound.sound k.legal

pub returns-clause-kept : goal.returns-clause-kept
returns-clause-kept c s policy script w es k = kept_few s policy script w es k.rules k.names k.sound.sound k.sound.below (none_beyond s w k.sound) k.legal

pub returns-clause-five : goal.returns-clause-five
returns-clause-five c s policy script w es x k =
    at_most_five s policy script w es x k.sound.below (none_beyond s w k.sound) (legal_below s policy script k.rules w es k.names k.sound.sound k.legal) k.legal

pub returns-clause-four : goal.returns-clause-four
returns-clause-four c s policy script w es x k none =
    at_most_four s policy script w es x k.sound.below (none_beyond s w k.sound) (legal_below s policy script k.rules w es k.names k.sound.sound k.legal) k.legal none

pub returns-clause-changed : goal.returns-clause-changed
returns-clause-changed c s policy script w es x k is =
    four_if_changed s policy script w es x k.sound.below (none_beyond s w k.sound) (legal_below s policy script k.rules w es k.names k.sound.sound k.legal) k.legal is
