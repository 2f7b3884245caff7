use Rattle.std.proofs.Common.{sym, subst}
use Rattle.base_managers.specs.Managing.{AreScriptManagers, ManagerTables, managers_of}
use Rattle.command_outcomes.specs.Seen.{gave, seen_disk, seen_sink}
use Rattle.script_types.specs.Scripts.{tables_of}
use Rattle.command_open.proofs.command_promises_lemmas.Drilled.{complete, drill_leaves, no_memory, none_allowed}
use Rattle.command_run.proofs.drilling.run_drill.Goals as goal

pub run_read-requires-clause-managers : goal.run_read-requires-clause-managers
run_read-requires-clause-managers g c = subst (λ (ms : ManagerTables). AreScriptManagers ms) (sym c.in-Ok.ensures.managers) none_allowed

pub returns-in-Ok-clause-leaves : goal.returns-in-Ok-clause-leaves
returns-in-Ok-clause-leaves g c =
    let d = g.D.Disk in
    drill_leaves g.m c.args.number (seen_sink g.W.Sink.held g.W.Sink.faults c.args.sink.now c.run_read.new.sink)
    (seen_disk d c.args.disk c.run_read.result.disk) (gave c.run_read.result)
    (managers_of c.in-Ok.read.managers) (tables_of c.in-Ok.read.script) _ c.in-Ok.ensures.managers c.in-Ok.ensures.drill c.run_read.ensures.leaves

pub returns-in-Ok-clause-complete : goal.returns-in-Ok-clause-complete
returns-in-Ok-clause-complete g c can disk sink blocks = complete g.m c.args.number _ _ (gave c.run_read.result) can c.run_read.result.status (returns-in-Ok-clause-leaves g c) disk sink blocks

pub returns-in-Err-clause-leaves : goal.returns-in-Err-clause-leaves
returns-in-Err-clause-leaves g c =
    let d = g.D.Disk in
    no_memory g.m c.args.number (seen_sink g.W.Sink.held g.W.Sink.faults c.args.sink.now c.end_with.new.sink)
    (seen_disk d c.args.disk c.end_with.result.disk) (gave c.end_with.result)
    c.end_with.result.status c.end_with.ensures.status c.end_with.ensures.unrun c.end_with.ensures.disk

pub returns-in-Err-clause-complete : goal.returns-in-Err-clause-complete
returns-in-Err-clause-complete g c can disk sink blocks = complete g.m c.args.number _ _ (gave c.end_with.result) can c.end_with.result.status (returns-in-Err-clause-leaves g c) disk sink blocks
