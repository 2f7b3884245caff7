-- What a mirrored run gave of its first node.
use Rattle.command_outcomes.specs.Seen.{Gave}
use Rattle.command_outcomes.specs.declared.statuses.Status.TheVariants.{Done}
use Rattle.command_mirror.specs.declared.statuses.MirrorOutcome.{MirrorOutcome}

-- its history and marks; how it ended is told apart
abbrev pub gave_by : {D E : Type 0} → MirrorOutcome D E → Gave
gave_by o = record { status = Done; history = o.history.items; marks = o.marks.items }
