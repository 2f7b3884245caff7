use Rattle.std.proofs.Common.{IfOk, IfSome, IfNone, sym, subst}
use Rattle.base_types.specs.declared.histories.Event.{Event}
use Rattle.script_types.specs.Scripts.{tables_of}
use Rattle.trace_steps.specs.Standing.{GoesOn, Refuses}
use Rattle.model_run_rules.proofs.Single.{map_none, map_some, none_of_it, some_of}
use Rattle.trace_steps.proofs.following.next.Goals as goal

pub returns-in-Birth-clause-some : goal.returns-in-Birth-clause-some
returns-in-Birth-clause-some g c =
    subst (λ (ev : Event). IfOk c.birth_of.result (λ o. IfSome o (λ e. GoesOn g.gate.word g.gate.wish (tables_of c.args.script.now) c.args.checker.now ev c.args.actor e c.birth_of.new.checker))) (sym c.in-Birth.is) c.birth_of.ensures.some

pub returns-in-Birth-clause-none : goal.returns-in-Birth-clause-none
returns-in-Birth-clause-none g c =
    subst (λ (ev : Event). IfOk c.birth_of.result (λ o. IfNone o (Refuses g.gate.word g.gate.wish (tables_of c.args.script.now) c.args.checker.now ev c.args.actor))) (sym c.in-Birth.is) c.birth_of.ensures.none

pub returns-in-Step-clause-some : goal.returns-in-Step-clause-some
returns-in-Step-clause-some g c =
    subst (λ (ev : Event). IfOk c.step.result (λ o. IfSome o (λ e. GoesOn g.gate.word g.gate.wish (tables_of c.args.script.now) c.args.checker.now ev c.args.actor e c.step.new.checker))) (sym c.in-Step.is) c.step.ensures.some

pub returns-in-Step-clause-none : goal.returns-in-Step-clause-none
returns-in-Step-clause-none g c =
    subst (λ (ev : Event). IfOk c.step.result (λ o. IfNone o (Refuses g.gate.word g.gate.wish (tables_of c.args.script.now) c.args.checker.now ev c.args.actor))) (sym c.in-Step.is) c.step.ensures.none

pub returns-in-Snap-clause-some : goal.returns-in-Snap-clause-some
returns-in-Snap-clause-some g c =
    subst (λ (ev : Event). IfOk c.snap.result (λ o. IfSome o (λ e. GoesOn g.gate.word g.gate.wish (tables_of c.args.script.now) c.args.checker.now ev c.args.actor e c.snap.new.checker))) (sym c.in-Snap.is)
    (map_some c.snap.result (λ e h. h g.gate.word (tables_of c.args.script.now)) c.snap.ensures.some)

pub returns-in-Snap-clause-none : goal.returns-in-Snap-clause-none
returns-in-Snap-clause-none g c =
    subst (λ (ev : Event). IfOk c.snap.result (λ o. IfNone o (Refuses g.gate.word g.gate.wish (tables_of c.args.script.now) c.args.checker.now ev c.args.actor))) (sym c.in-Snap.is)
    (map_none c.snap.result (λ h. h g.gate.word (tables_of c.args.script.now)) c.snap.ensures.none)

pub returns-in-Stable-clause-some : goal.returns-in-Stable-clause-some
returns-in-Stable-clause-some g c =
    subst (λ (ev : Event). IfOk c.stable.result (λ o. IfSome o (λ e. GoesOn g.gate.word g.gate.wish (tables_of c.args.script.now) c.args.checker.now ev c.args.actor e c.stable.new.checker))) (sym c.in-Stable.is)
    (map_some c.stable.result (λ e h. h g.gate.word (tables_of c.args.script.now)) c.stable.ensures.some)

pub returns-in-Stable-clause-none : goal.returns-in-Stable-clause-none
returns-in-Stable-clause-none g c =
    subst (λ (ev : Event). IfOk c.stable.result (λ o. IfNone o (Refuses g.gate.word g.gate.wish (tables_of c.args.script.now) c.args.checker.now ev c.args.actor))) (sym c.in-Stable.is)
    (map_none c.stable.result (λ h. h g.gate.word (tables_of c.args.script.now)) c.stable.ensures.none)

pub returns-in-Tried-clause-some : goal.returns-in-Tried-clause-some
returns-in-Tried-clause-some g c =
    subst (λ (ev : Event). IfSome c.try_record.result (λ e. GoesOn g.gate.word g.gate.wish (tables_of c.args.script.now) c.args.checker.now ev c.args.actor e c.try_record.new.checker)) (sym c.in-Tried.is)
    (some_of c.try_record.result (λ e h. h g.gate.word (tables_of c.args.script.now)) c.try_record.ensures.some)

pub returns-in-Tried-clause-none : goal.returns-in-Tried-clause-none
returns-in-Tried-clause-none g c =
    subst (λ (ev : Event). IfNone c.try_record.result (Refuses g.gate.word g.gate.wish (tables_of c.args.script.now) c.args.checker.now ev c.args.actor)) (sym c.in-Tried.is)
    (none_of_it c.try_record.result (λ h. h g.gate.word (tables_of c.args.script.now)) c.try_record.ensures.none)
