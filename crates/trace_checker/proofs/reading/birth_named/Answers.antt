use Rattle.std.proofs.Common.{◌≡◌, ◌∙◌, sym, subst, refl}
use Rattle.std.proofs.lemmas.Bool.{false≢true}
use Rattle.base_types.specs.declared.histories.Entry.{Entry}
use Rattle.trace_facts.proofs.plain_runs_lemmas.Answering.{few_names_of}
use Rattle.script_types.specs.Scripts.{tables_of}
use Rattle.line_text.specs.Lines.{name_in}
use Rattle.trace_facts.specs.trace_step_facts.Standing.{run_of}
use Rattle.trace_facts.proofs.model_run_rules_lemmas.Single.{one_birth, where_none}
use Rattle.trace_facts.specs.Traces.{names_after}
use Rattle.trace_facts.proofs.Actors.{newborn_here, tried_refuses}
use Rattle.trace_checker.proofs.reading.birth_named.Goals as goal

pub returns-then-checker-clause-none : goal.returns-then-checker-clause-none
returns-then-checker-clause-none g c = λ w es h f ev may named. tried_refuses g.gate.word g.gate.wish (tables_of c.args.script.now) w es c.args.checker.now h c.if-checker.true f may

pub returns-in_default-clause-none : goal.returns-in_default-clause-none
returns-in_default-clause-none g c = λ w es h f ev may named. where_none _ c.in_default.is c.in_ok-entry.ensures.none f.actor w es h f ev refl may

pub is_named-requires : goal.is_named-requires
is_named-requires g c =
    let at = c.requires in
    let goes = (rw c.in-Some.is at c.in_ok-entry.ensures.some) at.0 at.1 at.2 in
    few_names_of g.gate.word c.birth.new.checker.state goes.stands.keeps.sound

pub returns-then-not-is_named-clause-none : goal.returns-then-not-is_named-clause-none
returns-then-not-is_named-clause-none g c = λ w es h f ev may named.
    let script = tables_of c.args.script.now in
    let goes = (rw c.in-Some.is at c.in_ok-entry.ensures.some) w es h in
    let same = one_birth g.gate.word g.gate.wish script (run_of g.gate.word script w es) c.in-Some.entry f goes.may may goes.made ev in
    let is = newborn_here g.gate.word g.gate.wish script w es c.args.checker.now h c.in-Some.entry c.birth.new.checker goes.may goes.made goes.stands in
    let here = sym is.1 ∙ subst (λ (e : Entry). name_in (names_after g.gate.word script (run_of g.gate.word script w es) e) e.actor ≡ c.args.name.now) same named in
    absurd (false≢true (sym c.if-not-is_named.true ∙ c.is_named.ensures.1 (record { born = is.0; named = here })))

pub returns-clause-some : goal.returns-clause-some
returns-clause-some g c = λ w es h.
    let goes = (rw c.in-Some.is at c.in_ok-entry.ensures.some) w es h in
    record { follows = goes; named = (c.is_named.ensures.0 c.if-not-is_named.false).named }
