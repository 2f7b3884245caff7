use Rattle.std.proofs.Common.{◌∙◌, ap, sym, subst}
use Rattle.line_entries.specs.Entries.{event_word}
use Rattle.plain_states.specs.Plains.{atlas_of}
use Rattle.trace_facts.proofs.plain_runs_lemmas.Answering.{few_names_of}
use Rattle.script_types.specs.Scripts.{tables_of}
use Rattle.trace_facts.proofs.model_run_rules_lemmas.Single.{map_none, map_some}
use Rattle.trace_facts.specs.Reading.{NamesBirthAt, NamesNoBirth}
use Rattle.trace_facts.specs.Words.{IsNamed, first_word}
use Rattle.trace_facts.proofs.Actors.{birth_alone, birth_none, birth_wants, next_alone, next_none, next_wants, no_event, unnamed}
use Rattle.trace_checker.proofs.reading.wanted.Goals as goal
use Rattle.model_clocks.specs.model_kernel.State.{Text}

pub returns-in_default-clause-none : goal.returns-in_default-clause-none
returns-in_default-clause-none g c = λ w es h f m front.
    no_event g.gate.word g.gate.wish (tables_of c.args.script.now) w es c.args.checker.now h c.args.line.now (λ v e. c.in_default.ensures.none v (e ∙ sym c.before-2.ensures)) f m front

pub returns-in-Birth-clause-some : goal.returns-in-Birth-clause-some
returns-in-Birth-clause-some g c =
    let first = sym c.before-2.ensures ∙ sym c.in-Some.ensures.some ∙ ap event_word c.in-Birth.is in
    let name = c.before-name.ensures ∙ ap first_word c.behind.ensures in
    map_some c.birth_named.result (λ e k w es h. birth_wants g.gate.word g.gate.wish (tables_of c.args.script.now) w es c.args.checker.now h c.args.line.now e c.birth_named.new.checker first
    (subst (λ (t : Text). NamesBirthAt g.gate.word g.gate.wish (tables_of c.args.script.now) w es t e c.birth_named.new.checker) name (k w es h))) c.birth_named.ensures.some

pub returns-in-Birth-clause-alone : goal.returns-in-Birth-clause-alone
returns-in-Birth-clause-alone g c =
    let first = sym c.before-2.ensures ∙ sym c.in-Some.ensures.some ∙ ap event_word c.in-Birth.is in
    let name = c.before-name.ensures ∙ ap first_word c.behind.ensures in
    map_some c.birth_named.result (λ e k w es h. birth_alone g.gate.word g.gate.wish (tables_of c.args.script.now) w es c.args.checker.now h c.args.line.now e c.birth_named.new.checker first
    (subst (λ (t : Text). NamesBirthAt g.gate.word g.gate.wish (tables_of c.args.script.now) w es t e c.birth_named.new.checker) name (k w es h))) c.birth_named.ensures.some

pub returns-in-Birth-clause-none : goal.returns-in-Birth-clause-none
returns-in-Birth-clause-none g c =
    let first = sym c.before-2.ensures ∙ sym c.in-Some.ensures.some ∙ ap event_word c.in-Birth.is in
    let name = c.before-name.ensures ∙ ap first_word c.behind.ensures in
    map_none c.birth_named.result (λ k w es h. birth_none g.gate.word g.gate.wish (tables_of c.args.script.now) w es c.args.checker.now h c.args.line.now first
    (subst (λ (t : Text). NamesNoBirth g.gate.word g.gate.wish (tables_of c.args.script.now) c.args.checker.now t) name k w es h)) c.birth_named.ensures.none

pub entity_named-requires : goal.entity_named-requires
entity_named-requires g c =
    let at = c.requires.1.1.1.1.1.1 in
    few_names_of g.gate.word c.args.checker.now.state at.2.keeps.sound

pub returns-in-Some-entity_named : goal.returns-in-Some-entity_named
returns-in-Some-entity_named g c =
    let first = sym c.before-2.ensures ∙ sym c.in-Some.ensures.some in
    let name = c.before-name.ensures ∙ ap first_word c.behind.ensures in
    let named = subst (λ (t : Text). IsNamed (atlas_of c.args.checker.now.state.atlas) t c.in-Some-entity_named.actor) name c.in-Some-entity_named.ensures.some in
    record {
      some = map_some c.next.result (λ e k w es h. next_wants g.gate.word g.gate.wish (tables_of c.args.script.now) w es c.args.checker.now h c.args.line.now c.in-Some.event first c.in_default-event.not-Birth c.in-Some-entity_named.actor named e c.next.new.checker (k w es h)) c.next.ensures.some;
      alone = map_some c.next.result (λ e k w es h. next_alone g.gate.word g.gate.wish (tables_of c.args.script.now) w es c.args.checker.now h c.args.line.now c.in-Some.event first c.in_default-event.not-Birth c.in-Some-entity_named.actor named e c.next.new.checker (k w es h)) c.next.ensures.some;
      none = map_none c.next.result (λ k w es h. next_none g.gate.word g.gate.wish (tables_of c.args.script.now) w es c.args.checker.now h c.args.line.now c.in-Some.event first c.in_default-event.not-Birth c.in-Some-entity_named.actor named (λ f. k w es h f)) c.next.ensures.none;
    }

pub returns-in-None : goal.returns-in-None
returns-in-None g c =
    let first = sym c.before-2.ensures ∙ sym c.in-Some.ensures.some in
    let name = c.before-name.ensures ∙ ap first_word c.behind.ensures in
    record {
      some = tt;
      alone = tt;
      none = λ w es h. unnamed g.gate.word g.gate.wish (tables_of c.args.script.now) w es c.args.checker.now h c.args.line.now c.in-Some.event first c.in_default-event.not-Birth
          (λ x low is. c.in-None.ensures.none x low (subst (λ (t : Text). IsNamed (atlas_of c.args.checker.now.state.atlas) t x) (sym name) is));
    }
