use Rattle.std.proofs.Common.{sym}
use Rattle.command_promises.proofs.TracedMeaning.{none_fault}
use Rattle.command_check_trace.proofs.reading.read_traced.Goals as goal

pub returns-in-None-clause-fault : goal.returns-in-None-clause-fault
returns-in-None-clause-fault c = none_fault c.args.bytes.now c.requires.short (sym c.in-None.ensures.place) c.no_rule.result c.no_rule.ensures
