use Rattle.command_outcomes.specs.Seen.{Call, gave, seen_disk, seen_sink, seen_source}
use Rattle.command_outcomes.specs.Statuses.{ending}
use Rattle.base_managers.specs.Managing.{managers_of}
use Rattle.script_types.specs.Scripts.{tables_of}
use Rattle.command_run.specs.Tellings.{lines_of}
use Rattle.command_open.specs.command_promises.Manners.{on_threads}
use Rattle.command_open.proofs.command_promises_lemmas.Complete.{complete}
use Rattle.command_open.proofs.command_promises_lemmas.Leavings.{behind_source, ended_by, source_stops}
use Rattle.command_workers.proofs.running.run_on_workers.Goals as goal

pub returns-in-Ok-clause-leaves : goal.returns-in-Ok-clause-leaves
returns-in-Ok-clause-leaves g c = behind_source (on_threads (lines_of c.args.lines)) g.m _ (tables_of c.in-Ok.read.script) (managers_of c.in-Ok.read.managers) c.in-Ok.ensures.read (gave c.run_read.result) (ending c.run_read.result.status) c.run_read.ensures.leaves

pub returns-in-Ok-clause-complete : goal.returns-in-Ok-clause-complete
returns-in-Ok-clause-complete g c can source disk sink blocks = complete (on_threads (lines_of c.args.lines)) g.m _ (gave c.run_read.result) can c.run_read.result.status (returns-in-Ok-clause-leaves g c) source disk sink blocks

pub returns-in-Err-clause-leaves : goal.returns-in-Err-clause-leaves
returns-in-Err-clause-leaves g c =
    let d = g.D.Disk in
    let call : Call = record {
      source = seen_source g.R.Source.left g.R.Source.faults c.args.source.now c.read_source.new.source;
      sink = seen_sink g.W.Sink.held g.W.Sink.faults c.args.sink.now c.end_with.new.sink;
      disk = seen_disk d c.args.disk c.end_with.result.disk;
    } in
    ended_by (on_threads (lines_of c.args.lines)) g.m call (gave c.end_with.result) c.end_with.result.status c.in-Err.fault c.end_with.ensures.status
    (source_stops (on_threads (lines_of c.args.lines)) g.m call (gave c.end_with.result) c.in-Err.fault c.in-Err.ensures.fault c.in-Err.ensures.stops c.end_with.ensures.unrun c.end_with.ensures.disk)

pub returns-in-Err-clause-complete : goal.returns-in-Err-clause-complete
returns-in-Err-clause-complete g c can source disk sink blocks = complete (on_threads (lines_of c.args.lines)) g.m _ (gave c.end_with.result) can c.end_with.result.status (returns-in-Err-clause-leaves g c) source disk sink blocks
