use Rattle.script_types.specs.Scripts.{tables_of}
use Rattle.plain_runs.proofs.serial.SerialRun.next.Goals as goal

pub returns-in-Some-clause-further : goal.returns-in-Some-clause-further
returns-in-Some-clause-further g c = c.pay.ensures.further g.s (tables_of c.args.script.now)
