use Rattle.model_serial_turns.proofs.Whereabouts.{looked_front, looked_idle, looked_more, looked_opening, looked_rest}
use Rattle.model_serial_turns.proofs.looked_law.Goals as goal

pub returns-clause-opened : goal.returns-clause-opened
returns-clause-opened c s policy script w = looked_opening s policy script w

pub returns-clause-look : goal.returns-clause-look
returns-clause-look c s policy script w ls es l h = looked_more s policy script w ls es l h

pub returns-clause-idle : goal.returns-clause-idle
returns-clause-idle c s policy script w ls es l h idle = looked_idle s policy script w ls es l h idle

pub returns-clause-rest : goal.returns-clause-rest
returns-clause-rest c s policy script w ls es rules fits sound h = looked_rest s policy script w rules fits sound ls es h

pub returns-clause-front : goal.returns-clause-front
returns-clause-front c s policy script w ls es to_come h first = looked_front s policy script w ls es to_come h first

pub returns-clause-serial : goal.returns-clause-serial
returns-clause-serial c s policy script w es n h = h.same
