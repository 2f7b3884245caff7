use Rattle.std.proofs.Common.{[], refl}
use Rattle.model_serial.proofs.Calm.{snap_next, step_behind, step_entry, step_may, without}
use Rattle.model_serial.proofs.behind_law.Goals as goal

pub returns-clause-step : goal.returns-clause-step
returns-clause-step c s policy script r me e v calm born few is =
    let may = step_may s policy script r me (e, v) calm born few is in
    (may, step_behind s policy script r e calm (step_entry s policy script r me (e, v) is).0 may)

pub returns-clause-snap : goal.returns-clause-snap
returns-clause-snap c s policy script r x xs owed behind may = snap_next s policy script r x xs owed behind may

pub returns-clause-without : goal.returns-clause-without
returns-clause-without c policy r x xs behind none = without (λ _ _ _. 0) policy (record { steps = 0; order = []; containers = []; loci = [] }) r x xs behind none

pub returns-clause-stable : goal.returns-clause-stable
returns-clause-stable c s policy script r actor xs behind owed = (
  (behind.tried, (owed, behind.short, refl)),
  record { owed = refl; short = behind.short; tried = behind.tried; due = λ x. refl },
)

pub returns-clause-calm : goal.returns-clause-calm
returns-clause-calm c policy r owed behind = record { owed = owed; short = behind.short; tried = behind.tried; due = λ x. behind.due x refl }
