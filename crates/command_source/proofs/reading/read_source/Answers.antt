-- What the bytes that were read mean is said of the source that they came from.
use Rattle.base_types.specs.declared.limits.TheConstants.{MOST_SCRIPT_BYTES}
use Rattle.base_managers.specs.Managing.{managers_of}
use Rattle.command_outcomes.specs.Seen.{seen_source}
use Rattle.command_source.proofs.Stopping.{stops_in_time}
use Rattle.script_types.specs.Scripts.{tables_of}
use Rattle.command_source.proofs.Whole.{accepted_whole, means_whole}
use Rattle.command_source.proofs.reading.read_source.Goals as goal

pub returns-clause-meaning : goal.returns-clause-meaning
returns-clause-meaning g c =
    let read = c.in_ok-read.read in
    means_whole (g.R.Source.left c.args.source.now) c.in-Ok.bytes.items c.deref.result.now (tables_of read.script) read.script.frames (managers_of read.managers) c.in-Ok.ensures.whole c.deref.ensures.value c.in_ok-read.ensures.meaning

pub returns-clause-read : goal.returns-clause-read
returns-clause-read g c =
    let read = c.in_ok-read.read in
    record {
      accepted = accepted_whole (g.R.Source.left c.args.source.now) (tables_of read.script) read.script.frames (managers_of read.managers) (returns-clause-meaning g c);
      ended = c.in-Ok.ensures.end;
    }

pub returns-in-Err-clause-stops : goal.returns-in-Err-clause-stops
returns-in-Err-clause-stops g c =
    let source = seen_source g.R.Source.left g.R.Source.faults c.args.source.now c.read_all.new.source in
    stops_in_time MOST_SCRIPT_BYTES source c.in-Err.stop c.fault_of_stop.result c.fault_of_stop.ensures c.in-Err.ensures.stops
