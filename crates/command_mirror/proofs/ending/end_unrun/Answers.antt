use Rattle.command_outcomes.proofs.Endings.{gains}
use Rattle.command_outcomes.specs.Seen.{seen_sink}
use Rattle.command_mirror.proofs.ending.end_unrun.Goals as goal

pub returns-clause-output : goal.returns-clause-output
returns-clause-output g c =
    gains (seen_sink g.W.Sink.held g.W.Sink.faults c.args.sink.now c.put_mirror_fault.new.sink) c.put_mirror_fault.result _ c.put_mirror_fault.ensures.bytes c.put_mirror_fault.ensures.cause
