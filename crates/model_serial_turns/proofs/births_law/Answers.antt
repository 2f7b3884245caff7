use Rattle.model_serial.specs.model_kernel.Histories.{run_after, start_run}
use Rattle.model_serial.proofs.Openings.{birth_may, new_calm}
use Rattle.model_serial_turns.proofs.Bearing.{bearing_behind, bearing_front, bearing_last, bearing_more, bearing_over, begins}
use Rattle.model_serial_turns.proofs.births_law.Goals as goal

pub returns-clause-begins : goal.returns-clause-begins
returns-clause-begins c s script w = begins s script w

pub returns-clause-may : goal.returns-clause-may
returns-clause-may c s policy script w es e v b is = birth_may s policy script (run_after s script (start_run w) es) (e, v) b.new is

pub returns-clause-calm : goal.returns-clause-calm
returns-clause-calm c s policy script w es b = new_calm s policy script (run_after s script (start_run w) es) b.new b.owed

pub returns-clause-more : goal.returns-clause-more
returns-clause-more c s script w es e v rules fits sound b is more = bearing_more s script w es e v rules fits sound b is more

pub returns-clause-last : goal.returns-clause-last
returns-clause-last c s script w es e v rules fits sound b is last = bearing_last s script w es e v rules fits sound b is last

pub returns-clause-over : goal.returns-clause-over
returns-clause-over c s script w es b born = bearing_over s script w es b born

pub returns-clause-front : goal.returns-clause-front
returns-clause-front c s policy script w es b = bearing_front s script policy w es b

pub returns-clause-behind : goal.returns-clause-behind
returns-clause-behind c s policy script w es e v b is = bearing_behind s script policy w es e v b is
