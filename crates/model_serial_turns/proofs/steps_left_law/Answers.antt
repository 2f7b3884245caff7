use Rattle.model_serial.specs.model_kernel.Histories.{never}
use Rattle.model_serial.proofs.Rounds.{few_left}
use Rattle.model_serial_turns.proofs.Whereabouts.{look_behind_takes, round_takes}
use Rattle.model_serial_turns.proofs.steps_left_law.Goals as goal

pub returns-clause-look : goal.returns-clause-look
returns-clause-look c s policy script r es l low high can = look_behind_takes s policy script r es l low high can

pub returns-clause-round : goal.returns-clause-round
returns-clause-round c s policy script r = round_takes s policy script r

pub returns-clause-most : goal.returns-clause-most
returns-clause-most c script r = few_left (λ _ _ _. 0) never script r
