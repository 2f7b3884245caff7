use denote.Param.Send.{given_send, given_sync, sendable}
use Rattle.std.proofs.Common.{rules, ◌≡◌, map, string_bytes}
use Rattle.command_words.specs.declared.Command.TheVariants.{RunOnThreads}
use Rattle.hopper_top.proofs.Doing.{can_run_on, completes_none, copies_none, leaves_on}
use Rattle.hopper_top.proofs.top.do_any.Goals as goal

-- what is asked stands behind the lifetimes of seven types and five bounds
pub run_on_workers-requires : goal.run_on_workers-requires
run_on_workers-requires g c κs within =
    let is : c.args.command ≡ RunOnThreads c.in-Some.workers c.in-Some.trace = search rules in
    let bounds = c.requires.1.1.1.1.1.1.1 in
    let disk_goes = λ (u : Unit {0}). bounds.0 in
    let supply_shared = λ (u : Unit {0}). given_sync 3 g.row.S bounds.1.0 in
    let policy_shared = λ (u : Unit {0}). given_sync 4 g.row.P bounds.1.1.0 in
    let runtime_shared = λ (u : Unit {0}). given_sync 5 g.row.T bounds.1.1.1.0 in
    let steps_shared = λ (u : Unit {0}). given_sync 6 g.row.G bounds.1.1.1.1.0 in
    let asked = bounds.1.1.1.1.1 in
    (within.0, (within.1.0, (within.1.1.0, (within.1.1.1.0, (within.1.1.1.1.0, (within.1.1.1.1.1.0, (within.1.1.1.1.1.1, (search (sendable, given_send, disk_goes) depth 20, (search (sendable, supply_shared) depth 20, (search (sendable, policy_shared) depth 20, (search (sendable, runtime_shared) depth 20, (search (sendable, steps_shared) depth 20, (asked.0, (asked.1.0, (asked.1.1.0, (asked.1.1.1.0, asked.1.1.1.1.1.0 c.in-Some.workers c.in-Some.trace is))))))))))))))))

pub returns-in-Some-clause-leaves : goal.returns-in-Some-clause-leaves
returns-in-Some-clause-leaves g c =
    let is : c.args.command ≡ RunOnThreads c.in-Some.workers c.in-Some.trace = search rules in
    leaves_on g.m _ _ _ _ _ _ is c.asked_lines-lines.ensures c.run_on_workers.ensures.leaves

pub returns-in-Some-clause-copies : goal.returns-in-Some-clause-copies
returns-in-Some-clause-copies g c =
    let is : c.args.command ≡ RunOnThreads c.in-Some.workers c.in-Some.trace = search rules in
    copies_none g.m _ _ _ _ _ _ is

pub returns-in-Some-clause-copied : goal.returns-in-Some-clause-copied
returns-in-Some-clause-copied g c =
    let is : c.args.command ≡ RunOnThreads c.in-Some.workers c.in-Some.trace = search rules in
    completes_none g.m _ _ _ _ _ _ is

pub returns-in-Some-clause-complete : goal.returns-in-Some-clause-complete
returns-in-Some-clause-complete g c can source disk sink room =
    let is : c.args.command ≡ RunOnThreads c.in-Some.workers c.in-Some.trace = search rules in
    c.run_on_workers.ensures.complete (can_run_on g.m _ _ _ _ is can) source disk sink room
