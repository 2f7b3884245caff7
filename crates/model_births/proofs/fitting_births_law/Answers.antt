use Rattle.std.proofs.Common.{is_some, ap}
use Rattle.model_births.proofs.Ends.{all_births_done, empty_fits, next_bears}
use Rattle.model_births.proofs.fitting_births_law.Goals as goal

pub returns-clause-next : goal.returns-clause-next
returns-clause-next c = λ s script w name rules fits sound owed. let b = next_bears s script rules w sound fits (ap is_some owed) in (b.made, b.is, b.fits)

pub returns-clause-over : goal.returns-clause-over
returns-clause-over c = λ s script w rules fits sound. all_births_done s script rules w sound fits

pub returns-clause-empty : goal.returns-clause-empty
returns-clause-empty c = empty_fits
