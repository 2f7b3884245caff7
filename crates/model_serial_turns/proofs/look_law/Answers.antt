use Rattle.std.proofs.Common.{Some, None, is_some, nat_lt}
use Rattle.model_serial.specs.model_kernel.Histories.{never}
use Rattle.model_serial.specs.model_kernel.Steps.{running}
use Rattle.std.proofs.lemmas.Bool.{and_parts}
use Rattle.model_serial.proofs.Rounds.{step_some}
use Rattle.model_serial_turns.proofs.Looks.{look_behind, look_idle}
use Rattle.model_serial_turns.proofs.look_law.Goals as goal

pub returns-clause-idle : goal.returns-clause-idle
returns-clause-idle c s policy script r l idle = look_idle s policy script r l idle

pub returns-clause-steps : goal.returns-clause-steps
returns-clause-steps c s script r l can = step_some s never script l r.state (and_parts (is_some (running (r.state l).cell)) (nat_lt (r.steps l) script.steps) can).0

pub returns-clause-stable : goal.returns-clause-stable
returns-clause-stable c s policy script r es l actor e v can is owed = look_behind s policy script r es l e v (Some actor) can is owed

pub returns-clause-snaps : goal.returns-clause-snaps
returns-clause-snaps c s policy script r es l e v can is owed = look_behind s policy script r es l e v None can is owed
