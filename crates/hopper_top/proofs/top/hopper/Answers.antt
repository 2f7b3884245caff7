use denote.Param.Send.{given_send, given_sync, sendable}
use Rattle.std.proofs.Common.{rules, inr, map, string_bytes, subst, IfNone, Option}
use Rattle.command_words.specs.Commands.{IsCommand}
use Rattle.command_words.specs.declared.Command.{Command}
use Rattle.command_words.specs.declared.Command.TheVariants.{Copy}
use Rattle.hopper_top.proofs.Doing.{can_do, completes_then, copies_then}
use Rattle.hopper_top.proofs.Serial.{copy_words, few_blocks, few_workers}
use Rattle.hopper_top.proofs.top.hopper.Goals as goal

-- what is asked stands behind the lifetimes of seven types and five bounds
pub do_any-requires : goal.do_any-requires
do_any-requires g c κs within =
    let told : IsCommand (map string_bytes c.args.words.now) c.in-Ok-Some.command = search rules in
    let bounds = c.requires.1.1.1.1.1.1.1 in
    let disk_goes = λ (u : Unit {0}). bounds.0 in
    let supply_shared = λ (u : Unit {0}). given_sync 3 g.row.S bounds.1.0 in
    let policy_shared = λ (u : Unit {0}). given_sync 4 g.row.P bounds.1.1.0 in
    let runtime_shared = λ (u : Unit {0}). given_sync 5 g.row.T bounds.1.1.1.0 in
    let steps_shared = λ (u : Unit {0}). given_sync 6 g.row.G bounds.1.1.1.1.0 in
    let asked = bounds.1.1.1.1.1 in
    (within.0, (within.1.0, (within.1.1.0, (within.1.1.1.0, (within.1.1.1.1.0, (within.1.1.1.1.1.0, (within.1.1.1.1.1.1, (search (sendable, given_send, disk_goes) depth 20, (search (sendable, supply_shared) depth 20, (search (sendable, policy_shared) depth 20, (search (sendable, runtime_shared) depth 20, (search (sendable, steps_shared) depth 20, (asked.0, (asked.1.0, (asked.1.1.0, (asked.1.1.1, (few_blocks _ _ told, (few_workers _ _ told, copy_words _ _ told))))))))))))))))))

pub returns-in-Ok-Some-clause-complete : goal.returns-in-Ok-Some-clause-complete
returns-in-Ok-Some-clause-complete g c command is can source disk sink room =
    let told : IsCommand (map string_bytes c.args.words.now) c.in-Ok-Some.command = search rules in
    c.do_any.ensures.complete (can_do g.m _ _ _ _ is told can) source disk sink room

pub returns-in-Ok-Some-clause-copies : goal.returns-in-Ok-Some-clause-copies
returns-in-Ok-Some-clause-copies g c name fresh copy =
    let told : IsCommand (map string_bytes c.args.words.now) c.in-Ok-Some.command = search rules in
    inr (copies_then _ _ told name fresh copy _ _ c.do_any.ensures.copies)

pub returns-in-Ok-Some-clause-copied : goal.returns-in-Ok-Some-clause-copied
returns-in-Ok-Some-clause-copied g c name fresh copy =
    let told : IsCommand (map string_bytes c.args.words.now) c.in-Ok-Some.command = search rules in
    completes_then _ _ told name fresh copy _ _ c.do_any.ensures.copied

pub returns-in-Ok-None-clause-copies : goal.returns-in-Ok-None-clause-copies
returns-in-Ok-None-clause-copies g c name fresh copy =
    let none = subst (λ (o : Option Command). IfNone o ((command : Command) → IsCommand (map string_bytes c.args.words.now) command → ⊥)) c.in-Ok-None.field-0-is c.in-Ok-None.ensures.none in
    absurd (none Copy (name, fresh, copy))

pub returns-in-Ok-None-clause-copied : goal.returns-in-Ok-None-clause-copied
returns-in-Ok-None-clause-copied g c name fresh copy =
    let none = subst (λ (o : Option Command). IfNone o ((command : Command) → IsCommand (map string_bytes c.args.words.now) command → ⊥)) c.in-Ok-None.field-0-is c.in-Ok-None.ensures.none in
    absurd (none Copy (name, fresh, copy))
