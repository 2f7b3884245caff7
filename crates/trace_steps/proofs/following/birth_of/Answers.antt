use Rattle.std.proofs.Common.{◌∙◌, ap, sym}
use Rattle.base_types.specs.declared.histories.Entry.{Entry}
use Rattle.script_types.specs.Scripts.{tables_of}
use Rattle.trace_step_facts.specs.Standing.{run_of}
use Rattle.model_run_rules.proofs.Single.{one_birth, where_none}
use Rattle.trace_steps.proofs.following.birth_of.Goals as goal

pub returns-then-number-clause-none : goal.returns-then-number-clause-none
returns-then-number-clause-none g c = λ w es h f ev by may.
    let script = tables_of c.args.script.now in
    let goes = (rw c.in-Some.is at c.in_ok-entry.ensures.some) w es h in
    let same = one_birth g.gate.word g.gate.wish script (run_of g.gate.word script w es) c.in-Some.entry f goes.may may goes.made ev in
    absurd (c.if-number.true (c.number.ensures.number ∙ ap (λ (e : Entry). e.actor) (sym same) ∙ by ∙ sym c.number-2.ensures.number))

pub returns-in_default-clause-none : goal.returns-in_default-clause-none
returns-in_default-clause-none g c = λ w es h e ev by may.
    where_none _ c.in_default.is c.in_ok-entry.ensures.none c.args.actor w es h e ev by may

pub returns-clause-some : goal.returns-clause-some
returns-clause-some g c = λ w es h.
    let goes = (rw c.in-Some.is at c.in_ok-entry.ensures.some) w es h in
    record { made = goes.made; by = sym c.number.ensures.number ∙ c.if-number.false ∙ c.number-2.ensures.number; may = goes.may; stands = goes.stands }
