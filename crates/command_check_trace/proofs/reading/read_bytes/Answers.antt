use Rattle.std.proofs.Common.{Err, ap}
use Rattle.command_outcomes.specs.Seen.{seen_source}
use Rattle.command_source.proofs.Stopping.{stops_in_time}
use Rattle.command_promises.specs.Sources.{most_bytes}
use Rattle.command_promises.proofs.TracedMeaning.{stop_fault}
use Rattle.command_check_trace.proofs.reading.read_bytes.Goals as goal

pub returns-in-Err-clause-fault : goal.returns-in-Err-clause-fault
returns-in-Err-clause-fault g c =
    stop_fault (seen_source g.R.Source.left g.R.Source.faults c.args.source.now c.read_all.new.source) c.in-Err.stop c.fault_of_stop.result c.fault_of_stop.ensures (λ is. c.in-Err.ensures.long (ap Err is)) c.in-Err.ensures.fault

pub returns-in-Err-clause-stops : goal.returns-in-Err-clause-stops
returns-in-Err-clause-stops g c =
    stops_in_time most_bytes (seen_source g.R.Source.left g.R.Source.faults c.args.source.now c.read_all.new.source) c.in-Err.stop c.fault_of_stop.result c.fault_of_stop.ensures c.in-Err.ensures.stops
