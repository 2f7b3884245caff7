use Rattle.command_outcomes.specs.Seen.{seen_sink}
use Rattle.command_outcomes.proofs.Endings.{gains}
use Rattle.command_outcomes.proofs.ends.end_with.Goals as goal

pub returns-clause-unrun : goal.returns-clause-unrun
returns-clause-unrun g c =
    record { empty = c.empty_outcome.ensures.empty; output = gains (seen_sink g.W.Sink.held g.W.Sink.faults c.args.sink.now c.put_fault.new.sink) c.put_fault.result _ c.put_fault.ensures.bytes c.put_fault.ensures.cause }
