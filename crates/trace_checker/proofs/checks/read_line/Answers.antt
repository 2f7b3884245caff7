use Rattle.std.proofs.Common.{◌≡◌, ◌∙◌, ◌++◌, ◌∷◌, ap, subst}
use Rattle.plain_states.proofs.PlainBirths.{sound_here}
use Rattle.plain_states.specs.Plains.{atlas_of}
use Rattle.model_clocks.specs.model_kernel.State.{Text}
use Rattle.script_types.specs.Scripts.{tables_of}
use Rattle.trace_facts.proofs.model_run_rules_lemmas.Single.{where_none}
use Rattle.trace_facts.specs.Reading.{NamesAlone, NamesNone, WantsFrom}
use Rattle.trace_facts.proofs.Lining.{reads_on, some_of}
use Rattle.trace_checker.proofs.Lining.{unwanted_stop, wrong_stop}
use Rattle.trace_facts.proofs.Names.{short_names}
use Rattle.trace_checker.proofs.checks.read_line.Goals as goal

pub returns-in_default-clause-err : goal.returns-in_default-clause-err
returns-in_default-clause-err g c =
    let none = where_none _ c.in_default.is c.in-Ok.ensures.none in
    unwanted_stop g.gate.word g.gate.wish (tables_of c.args.script.now) c.args.checker.now c.args.rest.now c.args.line c.unwanted.result (subst (λ (t : Text). NamesNone g.gate.word g.gate.wish (tables_of c.args.script.now) c.args.checker.now t) c.before-2.ensures none) c.unwanted.ensures

pub text_of-text-requires : goal.text_of-text-requires
text_of-text-requires g c =
    let at = c.requires.1.1.1.1.1.1 in
    let k = some_of _ _ _ c.in-Some.is c.in-Ok.ensures.some at.0 at.1 at.2 in
    let st = c.wanted.new.checker.state in
    record { short = short_names (atlas_of st.atlas) (sound_here g.gate.word st k.stands.keeps.sound).names }

pub returns-in_default-behind_line-clause-err : goal.returns-in_default-behind_line-clause-err
returns-in_default-behind_line-clause-err g c =
    let k = some_of _ _ _ c.in-Some.is c.in-Ok.ensures.some in
    let alone = some_of _ _ _ c.in-Some.is c.in-Ok.ensures.alone in
    let line = c.before-2.ensures in
    wrong_stop g.gate.word g.gate.wish (tables_of c.args.script.now) c.args.checker.now c.args.rest.now c.args.line c.in-Some.entry c.wanted.new.checker
    (subst (λ (t : Text). WantsFrom g.gate.word g.gate.wish (tables_of c.args.script.now) c.args.checker.now t c.in-Some.entry c.wanted.new.checker) line k)
    (subst (λ (t : Text). NamesAlone g.gate.word g.gate.wish (tables_of c.args.script.now) c.args.checker.now t c.in-Some.entry) line alone)
    c.text_of-text.result.bytes c.text_of-text.ensures (subst (λ (t : Text). (left : Text) → c.args.rest.now ≡ t ++ 10 ∷ left → ⊥) c.as_str.ensures.value c.in_default-behind_line.ensures.none)
    c.wrong.result c.wrong.ensures.played c.wrong.ensures.other

pub returns-clause-ok : goal.returns-clause-ok
returns-clause-ok g c = λ w es h.
    let k = some_of _ _ _ c.in-Some.is c.in-Ok.ensures.some in
    let alone = some_of _ _ _ c.in-Some.is c.in-Ok.ensures.alone in
    let line = c.before-2.ensures in
    reads_on g.gate.word g.gate.wish (tables_of c.args.script.now) w es c.args.checker.now h c.args.rest.now c.in-Some.entry c.wanted.new.checker
    ((subst (λ (t : Text). WantsFrom g.gate.word g.gate.wish (tables_of c.args.script.now) c.args.checker.now t c.in-Some.entry c.wanted.new.checker) line k) w es h)
    ((subst (λ (t : Text). NamesAlone g.gate.word g.gate.wish (tables_of c.args.script.now) c.args.checker.now t c.in-Some.entry) line alone) w es h)
    c.text_of-text.result.bytes c.text_of-text.ensures c.in-Some-behind_line.left.now (c.in-Some-behind_line.ensures.some ∙ ap (λ (t : Text). t ++ 10 ∷ c.in-Some-behind_line.left.now) c.as_str.ensures.value)
