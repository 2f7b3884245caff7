use Rattle.model_serial_turns.proofs.Whereabouts.{round_idle, whole}
use Rattle.model_serial_turns.proofs.finish_law.Goals as goal

pub returns-clause-whole : goal.returns-clause-whole
returns-clause-whole c s policy script w es n rules fits sound h idle = whole s policy script w rules fits sound es n h idle

pub returns-clause-round : goal.returns-clause-round
returns-clause-round c s policy script r none l low high = round_idle s policy script r none l low high
