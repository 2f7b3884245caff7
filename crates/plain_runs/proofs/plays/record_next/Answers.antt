use Rattle.std.proofs.Common.{◌++◌, ◌∷◌, [], List, sym, ap, subst, ◌∙◌}
use Rattle.base_types.specs.declared.histories.Entry.{Entry}
use Rattle.plain_steps.specs.model_kernel.Serial.{IsSerial}
use Rattle.script_types.specs.Scripts.{tables_of}
use Rattle.plain_runs.specs.Standing.{Stands}
use Rattle.plain_runs.proofs.plays.record_next.Goals as goal

pub returns-in_err-reserve-clause-records : goal.returns-in_err-reserve-clause-records
returns-in_err-reserve-clause-records g c w h = subst (λ (es : List Entry). Stands g.s (tables_of c.args.script.now) w c.args.run.now es) (sym c.reserve.ensures.items) h

pub returns-in_err-entry-clause-records : goal.returns-in_err-entry-clause-records
returns-in_err-entry-clause-records g c w h = subst (λ (es : List Entry). Stands g.s (tables_of c.args.script.now) w c.next.new.self es) (sym c.reserve.ensures.items) (c.in_err-entry.ensures.err w c.args.history.now.items h)

pub returns-in-Some-clause-records : goal.returns-in-Some-clause-records
returns-in-Some-clause-records g c w h =
    let further = rw c.in-Some.is at c.in_ok-entry.ensures.further in
    let e = c.in-Some.entry in
    subst (λ (es : List Entry). Stands g.s (tables_of c.args.script.now) w c.next.new.self es) (sym (c.push_within.ensures ∙ ap (λ (es : List Entry). es ++ e ∷ []) c.reserve.ensures.items)) (further w c.args.history.now.items h)

pub returns-in-None-clause-records : goal.returns-in-None-clause-records
returns-in-None-clause-records g c w h =
    let keeps = rw c.in-None.is at c.in_ok-entry.ensures.none in
    subst (λ (es : List Entry). Stands g.s (tables_of c.args.script.now) w c.next.new.self es) (sym c.reserve.ensures.items) (keeps w c.args.history.now.items h)

pub returns-in-None-clause-over : goal.returns-in-None-clause-over
returns-in-None-clause-over g c _ w h =
    let over = rw c.in-None.is at c.in_ok-entry.ensures.over in
    subst (λ (es : List Entry). IsSerial g.s (tables_of c.args.script.now) w es) (sym c.reserve.ensures.items) (over w c.args.history.now.items h)
