use Rattle.std.proofs.Common.{rules, inr, map, string_bytes, subst, IfNone, Option}
use Rattle.command_words.specs.Commands.{IsCommand}
use Rattle.command_words.specs.declared.Command.{Command}
use Rattle.command_words.specs.declared.Command.TheVariants.{Copy}
use Rattle.hopper_top.proofs.Doing.{can_do, completes_then, copies_then}
use Rattle.hopper_top.proofs.serving.serve.Goals as goal

pub returns-in-Ok-Some-clause-complete : goal.returns-in-Ok-Some-clause-complete
returns-in-Ok-Some-clause-complete g c command is can source disk sink room =
    let told : IsCommand (map string_bytes c.args.words.now) c.in-Ok-Some.command = search rules in
    c.do_command.ensures.complete (can_do g.m _ _ _ _ is told can) source disk sink room

pub returns-in-Ok-Some-clause-copies : goal.returns-in-Ok-Some-clause-copies
returns-in-Ok-Some-clause-copies g c name fresh copy =
    let told : IsCommand (map string_bytes c.args.words.now) c.in-Ok-Some.command = search rules in
    inr (copies_then _ _ told name fresh copy _ _ c.do_command.ensures.copies)

pub returns-in-Ok-Some-clause-copied : goal.returns-in-Ok-Some-clause-copied
returns-in-Ok-Some-clause-copied g c name fresh copy =
    let told : IsCommand (map string_bytes c.args.words.now) c.in-Ok-Some.command = search rules in
    completes_then _ _ told name fresh copy _ _ c.do_command.ensures.copied

pub returns-in-Ok-None-clause-copies : goal.returns-in-Ok-None-clause-copies
returns-in-Ok-None-clause-copies g c name fresh copy =
    let none = subst (λ (o : Option Command). IfNone o ((command : Command) → IsCommand (map string_bytes c.args.words.now) command → ⊥)) c.in-Ok-None.field-0-is c.in-Ok-None.ensures.none in
    absurd (none Copy (name, fresh, copy))

pub returns-in-Ok-None-clause-copied : goal.returns-in-Ok-None-clause-copied
returns-in-Ok-None-clause-copied g c name fresh copy =
    let none = subst (λ (o : Option Command). IfNone o ((command : Command) → IsCommand (map string_bytes c.args.words.now) command → ⊥)) c.in-Ok-None.field-0-is c.in-Ok-None.ensures.none in
    absurd (none Copy (name, fresh, copy))
